use Rattle.std.proofs.Common.{◌≡◌, inl, inr, ℕ, ◌<◌, pos, List, [], ◌∷◌, length, map, get_or, ap, sym, subst, arith}
use Rattle.std.specs.List.{All, AllByRecursion}
use Rattle.std.proofs.lemmas.Bool.{cases_lt}
use Rattle.std.proofs.lemmas.List.{get_or_past, length-map}
use Rattle.std.proofs.lemmas.List.Elements.{All-get_or, All-map, All-from_recursion}
use Rattle.dali_account.specs.declared.net.Move.{Move}
use Rattle.dali_account.specs.Book.{BookRecord}
use Rattle.dali_account.specs.Net.{pair_of}
use Rattle.dali_account.specs.Units.{PairKey}
use Rattle.dali_problem.specs.declared.row.Effect.{Effect}
use Rattle.dali_problem.specs.Sums.{sum_over}
use Rattle.dali_problem.specs.Clearing.{Item, Clearing, no_item, item_at, effect, on_line}
use Rattle.dali_problem.proofs.Turned.{none_on}
use Rattle.dali_queue.specs.declared.instruction.Instruction.{Instruction}
use Rattle.dali_queue.specs.Queue.{QueueRecord}
use Rattle.dali_queue.specs.NetOf.{net_of}
use Rattle.dali_queue.specs.CycleProblem.{changed_by, line_of, effect_on, item_of_members, line_row, memberships, problem_of}
use Rattle.dali_queue.proofs.LineLemmas.{HasLine, line_within}
use Rattle.dali_queue.proofs.ProblemFits.{have_lines}
use Rattle.dali_marks.specs.OwnLines.{ChangesOwnLines}

-- an item all of whose effects stand on lines below n
record StandsBelow (n : ℕ) (item : Item) : Type 0 where
  pub lines : All (λ (e : Effect). e.line < n) item.effects

-- so past the last line nothing is changed
own_of : (p : Clearing) → All (StandsBelow (length p.lines)) p.items → ChangesOwnLines p
own_of p below = record {
  past = (λ j l past. elim (cases_lt j (length p.items)) as (λ _. effect p j l ≡ pos 0) [
    | inl within ↦
        let are = (All-get_or (StandsBelow (length p.lines)) p.items j no_item within below).lines in
        none_on l (item_at p j).effects (λ k d inside same.
        (let there : (get_or (item_at p j).effects k d).line < length p.lines = are k d inside in
        let at : (get_or (item_at p j).effects k d).line ≡ l = same in
        absurd (omega (arith, there, at, past))))
    | inr none ↦ ap (λ (item : Item). sum_over (on_line l) item.effects) (get_or_past p.items j no_item none)
  ]);
}

-- a net whose pairs all have lines stands on them
lines_within : (pairs : List PairKey) (net : List Move) → AllByRecursion (HasLine pairs) net → AllByRecursion (λ (m : Move). line_of pairs (pair_of m) < length pairs) net
lines_within pairs [] there = tt
lines_within pairs (m ∷ net) there = (line_within pairs (pair_of m) there.0, lines_within pairs net there.1)

items_stand : (pairs : List PairKey) (mss : List (List Instruction)) → AllByRecursion (AllByRecursion (HasLine pairs)) (map net_of mss) →
    AllByRecursion (StandsBelow (length pairs)) (map (item_of_members pairs) mss)
items_stand pairs [] there = tt
items_stand pairs (ms ∷ mss) there = (
  record {
    lines = All-map (λ (e : Effect). e.line < length pairs) (effect_on pairs) (net_of ms)
        (All-from_recursion (λ (m : Move). line_of pairs (pair_of m) < length pairs) (net_of ms) (lines_within pairs (net_of ms) there.0));
  },
  items_stand pairs mss there.1,
)

-- the problem of a cycle changes only its own lines, whatever the book and the queue are
pub problem_own : (book : BookRecord) (q : QueueRecord) (t : ℕ) → ChangesOwnLines (problem_of book q t)
unfolding problem_of
problem_own book q t =
    let mss : List (List Instruction) = memberships q t in
    let pairs : List PairKey = changed_by (map net_of mss) in
    own_of (problem_of book q t) (subst (λ (n : ℕ). All (StandsBelow n) (map (item_of_members pairs) mss)) (sym (length-map pairs (line_row book)))
    (All-from_recursion (StandsBelow (length pairs)) (map (item_of_members pairs) mss) (items_stand pairs mss (have_lines (map net_of mss)))))
