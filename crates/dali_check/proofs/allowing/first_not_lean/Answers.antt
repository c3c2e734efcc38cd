use Rattle.std.proofs.Common.{◌≡◌, ℕ, Bool, true, false, List, get_or, subst}
use Rattle.std.specs.List.{All, filter}
use Rattle.dali_problem.specs.Feasible.{value_of, has}
use Rattle.dali_tree.specs.declared.choice.Part.{Part}
use Rattle.dali_check.specs.Lean.{lean_part}
use Rattle.dali_check.specs.Parts.{value_in_part}
use Rattle.dali_check.specs.Allowed.{FirstFails}
use Rattle.dali_check.proofs.Firsts.{some_map, none_map}
use Rattle.dali_check.proofs.allowing.first_not_lean.Goals as goal

-- tests that are equal at each place are equal
tests_are : (s t : ℕ → Bool) → ((j : ℕ) → s j ≡ t j) → s ≡ t
tests_are s t same = λ i j. same j i

pub returns-clause-some : goal.returns-clause-some
returns-clause-some c =
    let p = c.args.problem.now in
    let marks : List Bool = c.mark_set.new.marks in
    let same : (λ (j : ℕ). get_or marks j false) ≡ has c.args.set.now = tests_are (λ (j : ℕ). get_or marks j false) (has c.args.set.now) c.mark_set.ensures.marked in
    some_map (FirstFails (λ (part : Part). lean_part p part (value_of p (filter (λ (j : ℕ). get_or marks j false) part.members))) c.args.parts.now)
    (FirstFails (λ (part : Part). lean_part p part (value_in_part p c.args.set.now part)) c.args.parts.now) c.first_not_lean_marked.result
    (λ k fails. subst (λ (m : ℕ → Bool). FirstFails (λ (part : Part). lean_part p part (value_of p (filter m part.members))) c.args.parts.now k) same fails)
    c.first_not_lean_marked.ensures.some

pub returns-clause-none : goal.returns-clause-none
returns-clause-none c =
    let p = c.args.problem.now in
    let marks : List Bool = c.mark_set.new.marks in
    let same : (λ (j : ℕ). get_or marks j false) ≡ has c.args.set.now = tests_are (λ (j : ℕ). get_or marks j false) (has c.args.set.now) c.mark_set.ensures.marked in
    none_map (All (λ (part : Part). lean_part p part (value_of p (filter (λ (j : ℕ). get_or marks j false) part.members)) ≡ true) c.args.parts.now)
    (All (λ (part : Part). lean_part p part (value_in_part p c.args.set.now part) ≡ true) c.args.parts.now) c.first_not_lean_marked.result
    (λ all. subst (λ (m : ℕ → Bool). All (λ (part : Part). lean_part p part (value_of p (filter m part.members)) ≡ true) c.args.parts.now) same all)
    c.first_not_lean_marked.ensures.none
