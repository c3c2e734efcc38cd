use Rattle.std.proofs.Common.{◌≡◌, inl, inr, ℕ, ◌≤◌, Bool, true, false, List, length, if◌then◌else◌, ap, sym, ◌∙◌, subst, arith}
use Rattle.std.specs.List.{All, Contains}
use Rattle.std.proofs.lemmas.Bool.{cases_lt}
use Rattle.std.proofs.lemmas.Int.{ints}
use Rattle.std.proofs.lemmas.List.{get_or_past}
use Rattle.dali_problem.specs.declared.mark.Mark.{Mark}
use Rattle.dali_problem.specs.declared.mark.Mark.TheVariants.{Stranger, Undecided, Chosen, Left}
use Rattle.dali_problem.specs.Clearing.{Clearing}
use Rattle.dali_problem.specs.Limits.{IsProblem}
use Rattle.dali_problem.specs.Feasible.{ArePlaces, IsFeasible, value_of, has}
use Rattle.dali_problem.specs.Partial.{mark, Agrees}
use Rattle.dali_problem.specs.Rest.{IsSubset}
use Rattle.dali_problem.proofs.SetLaws.{is_in, value_in}
use Rattle.dali_tree.specs.declared.tree.Tree.{Tree}
use Rattle.dali_fixes.proofs.Sets.{covers_of, goes_of}
use Rattle.dali_check.specs.Sides.{opened}
use Rattle.dali_check.specs.Proves.{proves_tree}
use Rattle.dali_check.proofs.Entering.{has_of, given, opened_at, opened_past}
use Rattle.dali_check.proofs.Trees.{tree_bounds}

-- a mark of the members undecided with no others
either : (of : Mark → Type 0) (b : Bool) → of Undecided → of Stranger → of (if b then Undecided else Stranger)
either of true u s = u
either of false u s = s

pub opened_marks : (of : Mark → Type 0) (n : ℕ) (members : List ℕ) (j : ℕ) → of Undecided → of Stranger → of (mark (opened n members) j)
opened_marks of n members j u s = elim (cases_lt j n) as (λ _. of (mark (opened n members) j)) [
  | inl within ↦ subst of (sym (opened_at n members j within)) (either of (has members j) u s)
  | inr past ↦ subst of (sym (opened_past n members j past)) s
]

undecided_stranger : Undecided ≡ Stranger → ⊥
undecided_stranger is = cc

undecided_left : Undecided ≡ Left → ⊥
undecided_left is = cc

undecided_chosen : Undecided ≡ Chosen → ⊥
undecided_chosen is = cc

left_chosen : Left ≡ Chosen → ⊥
left_chosen is = cc

stranger_chosen : Stranger ≡ Chosen → ⊥
stranger_chosen is = cc

-- among places that are left nothing is chosen, nor with some of them undecided
left_unchosen : (start : List Mark) (j : ℕ) → All (λ m. m ≡ Left) start → mark start j ≡ Chosen → ⊥
left_unchosen start j idle is = elim (cases_lt j (length start)) as (λ _. ⊥) [
  | inl within ↦ left_chosen (sym (idle j Stranger within) ∙ is)
  | inr past ↦ stranger_chosen (sym (get_or_past start j Stranger past) ∙ is)
]

given_unchosen : (b : Bool) (m : Mark) → (m ≡ Chosen → ⊥) → (if b then Undecided else m) ≡ Chosen → ⊥
given_unchosen true m none is = undecided_chosen is
given_unchosen false m none is = none is

-- a set of the members agrees with them undecided among places that are left
pub agrees_given : (members t : List ℕ) (start f : List Mark) → All (λ m. m ≡ Left) start → ((j : ℕ) → mark f j ≡ given members Undecided start j) →
    IsSubset t members → Agrees f t
agrees_given members t start f idle marks part =
    let at : (j : ℕ) → Contains t j → mark f j ≡ Undecided = λ j there.
    marks j ∙ ap (λ b. if b then Undecided else mark start j) (has_of members j (part.part j there)) in
    record {
      members = (λ j there stranger. undecided_stranger (sym (at j there) ∙ stranger));
      chosen = (λ j is. absurd (given_unchosen (has members j) (mark start j) (left_unchosen start j idle) (sym (marks j) ∙ is)));
      left = (λ j there left. undecided_left (sym (at j there) ∙ left));
    }

-- no feasible set that agrees is worth more than a bound that a tree proves
pub tree_most : (p : Clearing) (u : ℕ) (tree : Tree) (f : List Mark) (t : List ℕ) → IsProblem p → length f ≡ length p.items →
    proves_tree p u tree f ≡ true → ArePlaces p t → IsFeasible p t → Agrees f t → value_of p t ≤ u
tree_most p u tree f t limits size told places feasible agrees =
    let most = ((tree_bounds p u limits tree).bounds f size told).most (λ j. is_in j t) (covers_of p t limits places feasible) (goes_of f t agrees) in
    let value = value_in p t places in
    omega (arith, ints, most, value)
