use Rattle.std.proofs.Common.{◌≡◌, ◌<◌, ◌+ℤ◌, ◌∙◌, ℕ, List, length, take, get_or, ap, sym, subst, arith}
use Rattle.std.specs.List.{All, AllPairs}
use Rattle.std.proofs.lemmas.List.{take_all}
use Rattle.dali_problem.specs.Limits.{Within}
use Rattle.dali_problem.proofs.SumLaws.{sum_over_more}
use Rattle.dali_queue.specs.Queue.{QueueState}
use Rattle.dali_queue.specs.Limits.{IsQueue}
use Rattle.dali_queue.specs.Changed.{change_of}
use Rattle.dali_queue.specs.NetOf.{effect_at, effects_of, items_at}
use Rattle.dali_queue.proofs.NetLemmas.{effects_within, only_net}
use Rattle.dali_queue.proofs.NetItems.{effects_are, is_net_of}
use Rattle.dali_queue.proofs.queue.Queue.net.Goals as goal

pub add_effects-requires : goal.add_effects-requires
add_effects-requires c pair =
    let ws = c.args.self.now.queue.waiting in
    let kept : IsQueue c.args.self.now.queue = subst (λ (s : QueueState). IsQueue s.queue) c.self.view_is c.self.invariant in
    let same = sym c.as_slice-place-items.ensures in
    let rising = subst (λ (ps : List ℕ). AllPairs (λ i j. i < j) ps) same c.requires.rising in
    let below = subst (λ (ps : List ℕ). All (λ p. p < length ws) ps) same c.requires.in_range in
    subst (Within 2048000000000000000) (sym (c.loop-place.invariant.so_far pair))
    (effects_within ws c.as_slice-place-items.result.now c.loop-place.place-index pair kept.few kept.items rising below (omega (arith, c.loop-place-test.true)))

pub loop-place-preserved : goal.loop-place-preserved
loop-place-preserved c = record {
  so_far = λ pair. c.in_ok-add_effects.ensures pair
      ∙ ap (λ z. z +ℤ effect_at c.args.self.now.queue.waiting pair (get_or c.as_slice-place-items.result.now c.loop-place.place-index 0)) (c.loop-place.invariant.so_far pair)
      ∙ sym (sum_over_more (effect_at c.args.self.now.queue.waiting pair) c.as_slice-place-items.result.now c.loop-place.place-index 0 c.loop-place-test.true);
}

pub returns-clause-only : goal.returns-clause-only
returns-clause-only c =
    let ws = c.args.self.now.queue.waiting in
    let all : take c.loop-place.place-index c.as_slice-place-items.result.now ≡ c.args.places.now =
    take_all c.loop-place.place-index c.as_slice-place-items.result.now c.loop-place-test.false ∙ c.as_slice-place-items.ensures in
    only_net c.net.result (change_of c.loop-place.changes.deltas) (effects_of ws c.args.places.now) c.net.ensures
    (λ pair. c.loop-place.invariant.so_far pair ∙ ap (λ ps. effects_of ws ps pair) all)

pub returns-clause-items : goal.returns-clause-items
returns-clause-items c =
    let ws = c.args.self.now.queue.waiting in
    let all : take c.loop-place.place-index c.as_slice-place-items.result.now ≡ c.args.places.now =
    take_all c.loop-place.place-index c.as_slice-place-items.result.now c.loop-place-test.false ∙ c.as_slice-place-items.ensures in
    is_net_of c.net.result (change_of c.loop-place.changes.deltas) (items_at ws c.args.places.now) c.net.ensures
    (λ pair. c.loop-place.invariant.so_far pair ∙ ap (λ ps. effects_of ws ps pair) all ∙ effects_are ws c.args.places.now pair)
