use Rattle.std.proofs.Common.{◌≡◌, ◌∙◌, ◌+◌, ◌*◌, ◌≤◌, ◌<◌, ℕ, List, length, take, ap, sym, subst, arith}
use Rattle.std.specs.Option.{option_map_or}
use Rattle.std.specs.List.{All, AllPairs}
use Rattle.std.proofs.lemmas.List.{length-take-le}
use Rattle.std.proofs.lemmas.List.Elements.{recursion_from_All}
use Rattle.std.specs.Prelude.{sum_by}
use Rattle.dali_queue.specs.Instruction.{IsInstruction, weight}
use Rattle.dali_queue.specs.Queue.{Queued}
use Rattle.dali_queue.specs.NetOf.{items_at}
use Rattle.dali_queue.proofs.NetLemmas.{few_places}
use Rattle.dali_queue.proofs.PlaceLists.{items_few, items_all}
use Rattle.dali_queue.proofs.ProblemFits.{weights_most}
use Rattle.dali_queue.proofs.DraftLemmas.{value_more}
use Rattle.dali_queue.proofs.queue.Queue.value.Goals.{in-Some, in_default}
use Rattle.dali_queue.proofs.queue.Queue.value.Goals as goal

pub overflow_add-value : goal.overflow_add-value
overflow_add-value c =
    let ws = c.args.self.now.queue.waiting in
    let ps = c.as_slice-listed.result.now in
    let i : ℕ = c.loop-place.place-index in
    let same = sym c.as_slice-listed.ensures in
    let rising = subst (λ (qs : List ℕ). AllPairs (λ i j. i < j) qs) same c.requires.rising in
    let below = subst (λ (qs : List ℕ). All (λ p. p < length ws) qs) same c.requires.in_range in
    let queue = c.in-Some.ensures.queue in
    let few = queue.few in
    let places = few_places (length ws) ps rising below in
    let most = weights_most (items_at ws (take i ps)) (items_all IsInstruction ws (take i ps) (recursion_from_All (λ (w : Queued). IsInstruction w.item) ws queue.items)) in
    let size = items_few ws (take i ps) in
    let short : length (take i ps) ≡ i = length-take-le i ps (omega (arith, c.loop-place-test.true)) in
    let bound : length (items_at ws (take i ps)) * 16000000000000000 ≤ 1023 * 16000000000000000 = omega (arith, size, short, places, few, c.loop-place-test.true) in
    omega (arith, most, bound, c.loop-place.invariant.so_far, c.weight-value.ensures.most)

pub loop-place-preserved : goal.loop-place-preserved
loop-place-preserved c =
    let ws = c.args.self.now.queue.waiting in
    let ps = c.as_slice-listed.result.now in
    let i : ℕ = c.loop-place.place-index in
    let more = value_more ws ps i 0 c.loop-place-test.true in
    elim c.match-at.branch [
      | in-Some w ↦
          let own = ap (λ o. option_map_or weight o 0) w.in-Some.ensures.value in
          record { so_far = w.value-is ∙ ap (λ n. n + w.weight-value.result) c.loop-place.invariant.so_far ∙ ap (λ n. sum_by weight (items_at ws (take i ps)) + n) (w.weight-value.ensures.value ∙ own) ∙ sym more }
      | in_default w ↦
          let none = ap (λ o. option_map_or weight o 0) w.in_default.ensures.value in
          record { so_far = w.value-is ∙ c.loop-place.invariant.so_far ∙ omega arith ∙ ap (λ n. sum_by weight (items_at ws (take i ps)) + n) none ∙ sym more }
    ]
