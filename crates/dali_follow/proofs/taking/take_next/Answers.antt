use Rattle.std.proofs.Common.{[], ◌∷◌, ◌++◌, sym, ap, subst, arith, Err}
use Rattle.std.specs.Prelude.{IfSome}
use Rattle.dali_replica.specs.Reading.{Gives}
use Rattle.dali_replica.specs.Stream.{ShippedRecord}
use Rattle.dali_replica.specs.declared.refusal.FrameNo.{FrameNo}
use Rattle.dali_replica.proofs.Fronts.{frame_length}
use Rattle.dali_follow.specs.FollowRun.{Follows}
use Rattle.dali_follow.proofs.Ended.{stream_ended, frame_ended}
use Rattle.dali_follow.proofs.Standing.{stands_on}
use Rattle.dali_follow.proofs.Streams.{reads_more}
use Rattle.dali_follow.proofs.taking.take_next.Goals as goal

pub returns-in-Ok-clause-further : goal.returns-in-Ok-clause-further
returns-in-Ok-clause-further g c more =
    let told = g.S.Source.tells in
    let feed = g.S.Source.feed c.args.source.now in
    let now = g.S.Source.feed c.next.new.source in
    let gives : Gives told c.in-Ok-Some.frame c.args.frames.now c.next.new.self feed now =
    subst (λ o. IfSome o (λ (f : ShippedRecord). Gives told f c.args.frames.now c.next.new.self feed now)) c.in-Ok-Some.field-0-is (c.in-Ok-Some.ensures.some c.requires.more) in
    omega (arith, gives.place_on, frame_length c.in-Ok-Some.frame.number c.in-Ok-Some.frame.bytes)

pub returns-in-Ok-clause-taken : goal.returns-in-Ok-clause-taken
returns-in-Ok-clause-taken g c feed mid edition history to more =
    let told = g.S.Source.tells in
    let before = g.S.Source.feed c.args.source.now in
    let now = g.S.Source.feed c.next.new.source in
    let gives : Gives told c.in-Ok-Some.frame c.args.frames.now c.next.new.self before now =
    subst (λ o. IfSome o (λ (f : ShippedRecord). Gives told f c.args.frames.now c.next.new.self before now)) c.in-Ok-Some.field-0-is (c.in-Ok-Some.ensures.some c.requires.more) in
    record {
      frames = to.frames ++ c.in-Ok-Some.frame ∷ [];
      reads = reads_more told feed to.frames c.args.frames.now c.next.new.self before now to.reads c.next.ensures.faults c.in-Ok-Some.frame gives;
      stands = stands_on g.T.Site.tells mid edition history to.frames c.in-Ok-Some.frame c.args.found.now c.take_frame.new.found (g.T.Site.sight c.args.site.now) (g.T.Site.sight c.take_frame.new.site) to.stands
          c.in-Ok.ensures.taken c.in-Ok.ensures.found;
    }

pub returns-in-Ok-Some-clause-ended : goal.returns-in-Ok-Some-clause-ended
returns-in-Ok-Some-clause-ended g c feed mid edition history to =
    let told = g.S.Source.tells in
    let before = g.S.Source.feed c.args.source.now in
    let now = g.S.Source.feed c.next.new.source in
    let gives : Gives told c.in-Ok-Some.frame c.args.frames.now c.next.new.self before now =
    subst (λ o. IfSome o (λ (f : ShippedRecord). Gives told f c.args.frames.now c.next.new.self before now)) c.in-Ok-Some.field-0-is (c.in-Ok-Some.ensures.some c.requires.more) in
    frame_ended told g.T.Site.tells feed mid edition history to.frames c.args.found.now (g.T.Site.sight c.args.site.now) to.stands c.args.frames.now c.next.new.self before now to.reads c.next.ensures.faults
    c.in-Ok-Some.frame gives c.in-Err-take_frame.end (g.T.Site.sight c.take_frame.new.site) c.in-Err-take_frame.ensures.ended

pub returns-clause-ended : goal.returns-clause-ended
returns-clause-ended g c feed mid edition history to =
    let told = g.S.Source.tells in
    let before = g.S.Source.feed c.args.source.now in
    let now = g.S.Source.feed c.next.new.source in
    let sight = g.T.Site.sight c.args.site.now in
    subst (Follows told g.T.Site.tells feed now mid sight edition history) (sym c.end_of_stream.ensures)
    (stream_ended told g.T.Site.tells feed mid edition history to.frames c.args.found.now sight to.stands c.args.frames.now c.next.new.self before now to.reads c.next.ensures.faults c.in-Err.no
    c.in-Err.ensures.stops (λ is. c.in-Err.ensures.failed (ap (λ (e : FrameNo). Err e) is)))
