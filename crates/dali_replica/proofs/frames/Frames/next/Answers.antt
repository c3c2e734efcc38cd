use Rattle.std.proofs.Common.{◌≡◌, ◌∙◌, refl, ap, subst, arith}
use Rattle.std.specs.Prelude.{IfSome}
use Rattle.dali_replica.specs.Intake.{reach_of}
use Rattle.dali_replica.specs.Reading.{Reader, MeetsFrame, reached}
use Rattle.dali_replica.specs.Stream.{ShippedRecord}
use Rattle.dali_replica.proofs.Framing.{counted_on}
use Rattle.dali_replica.proofs.Fronts.{frame_length, one_stream}
use Rattle.dali_replica.proofs.frames.Frames.next.Goals as goal

pub invariant_of-self : goal.invariant_of-self
invariant_of-self g c =
    let told = g.S.Source.tells in
    let start = reach_of c.self.inside.intake (g.S.Source.feed c.args.source.now) in
    let now = reach_of c.read_frame.new.intake (g.S.Source.feed c.read_frame.new.source) in
    let met : MeetsFrame told c.in-Ok-Some.frame start now = subst (λ o. IfSome o (λ (f : ShippedRecord). MeetsFrame told f start now)) c.in-Ok-Some.field-0-is c.in-Ok-Some.ensures.some in
    let counted = counted_on told c.in-Ok-Some.frame start now c.self.inside.place c.len.result (c.self.invariant.place c.if-self.false) met c.len.ensures in
    record { place = λ open_still. counted; within = omega (arith, counted, met.gets.within) }

pub returns-in-Ok-Some-clause-some : goal.returns-in-Ok-Some-clause-some
returns-in-Ok-Some-clause-some g c open_before =
    let told = g.S.Source.tells in
    let feed = g.S.Source.feed c.args.source.now in
    let start = reach_of c.self.inside.intake feed in
    let now = reach_of c.read_frame.new.intake (g.S.Source.feed c.read_frame.new.source) in
    let met : MeetsFrame told c.in-Ok-Some.frame start now = subst (λ o. IfSome o (λ (f : ShippedRecord). MeetsFrame told f start now)) c.in-Ok-Some.field-0-is c.in-Ok-Some.ensures.some in
    let placed : c.in-Ok-Some.frame.place ≡ c.self.inside.place = subst (λ o. IfSome o (λ (f : ShippedRecord). f.place ≡ c.self.inside.place)) c.in-Ok-Some.field-0-is c.in-Ok-Some.ensures.place in
    let same = ap (λ (r : Reader). r.place) c.self.view_is in
    record {
      place_is = placed ∙ same;
      place_on = omega (arith, same, c.len.ensures, frame_length c.in-Ok-Some.frame.number c.in-Ok-Some.frame.bytes);
      more = refl;
      meets = subst (λ (r : Reader). MeetsFrame told c.in-Ok-Some.frame (reached r feed) now) c.self.view_is met;
    }

pub returns-in-Ok-Some-clause-counted : goal.returns-in-Ok-Some-clause-counted
returns-in-Ok-Some-clause-counted g c open_still =
    let told = g.S.Source.tells in
    let start = reach_of c.self.inside.intake (g.S.Source.feed c.args.source.now) in
    let now = reach_of c.read_frame.new.intake (g.S.Source.feed c.read_frame.new.source) in
    let met : MeetsFrame told c.in-Ok-Some.frame start now = subst (λ o. IfSome o (λ (f : ShippedRecord). MeetsFrame told f start now)) c.in-Ok-Some.field-0-is c.in-Ok-Some.ensures.some in
    counted_on told c.in-Ok-Some.frame start now c.self.inside.place c.len.result (c.self.invariant.place c.if-self.false) met c.len.ensures

pub returns-then-self-clause-one_stream : goal.returns-then-self-clause-one_stream
returns-then-self-clause-one_stream g c = one_stream

pub returns-in-Ok-Some-clause-one_stream : goal.returns-in-Ok-Some-clause-one_stream
returns-in-Ok-Some-clause-one_stream g c = one_stream

pub returns-in-Ok-None-clause-one_stream : goal.returns-in-Ok-None-clause-one_stream
returns-in-Ok-None-clause-one_stream g c = one_stream

pub returns-in-Err-clause-one_stream : goal.returns-in-Err-clause-one_stream
returns-in-Err-clause-one_stream g c = one_stream
