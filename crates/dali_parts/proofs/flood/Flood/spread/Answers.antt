use Rattle.std.proofs.Common.{◌≡◌, ◌<◌, ◌∙◌, pos, true, Option, is_some, List, length, get_or, arith}
use Rattle.std.proofs.lemmas.List.Elements.{All-more}
use Rattle.dali_problem.specs.declared.columns.Touch.{Touch}
use Rattle.dali_parts.specs.Flood.{class_at}
use Rattle.dali_parts.proofs.Flooding.{spreads_none, spreads_more, grows_none, grows_both, grows_told, enters_grows, enters_some, enters_counted}
use Rattle.dali_parts.proofs.flood.Flood.spread.Goals as goal

pub loop-touch-preserved : goal.loop-touch-preserved
loop-touch-preserved c =
    let d : Touch = record { place = 0; amount = pos 0 } in
    let ts = c.args.touches.now in
    let i = c.loop-touch.touch-index in
    let k = (get_or ts i d).place in
    let c0 = c.args.self.now.classes.items in
    let c1 = c.loop-touch.self.classes.items in
    let c2 = c.enter.new.self.classes.items in
    let w1 = c.loop-touch.self.pending.items in
    let w2 = c.enter.new.self.pending.items in
    let old : k < length c0 = c.requires i d c.loop-touch-test.true in
    let within : k < length c1 = omega (arith, old, c.loop-touch.invariant.grows.size) in
    let grows = enters_grows c.args.class k c1 c2 w1 w2 within c.in_ok-enter.ensures.entered in
    record {
      seen = c.enter.ensures.seen ∙ c.loop-touch.invariant.seen;
      spreads = spreads_more c.args.class c0 c1 c2 c.args.self.now.seen.items c.args.self.now.pending.items w1 w2 ts i d c.loop-touch-test.true
          c.in_ok-enter.ensures.entered c.loop-touch.invariant.spreads;
      each = All-more (λ (t : Touch). is_some (class_at c2 t.place) ≡ true) ts i d c.loop-touch-test.true
          (λ n e below. grows_told c.args.class c1 c2 _ grows (c.loop-touch.invariant.each n e below))
          (enters_some c.args.class k c1 c2 w1 w2 within c.in_ok-enter.ensures.entered);
      grows = grows_both c.args.class c0 c1 c2 c.loop-touch.invariant.grows grows;
      counted = enters_counted c.args.class k c1 c2 w1 w2 within c.in_ok-enter.ensures.entered ∙ c.loop-touch.invariant.counted;
    }
