use Rattle.std.proofs.Common.{◌≡◌, ◌≤◌, true, List, length, sym, subst}
use Rattle.std.specs.List.{All}
use Rattle.dali_tree.specs.declared.choice.Part.{Part}
use Rattle.dali_check.specs.Proves.{proves_part}
use Rattle.dali_check.specs.Lean.{lean_part}
use Rattle.dali_check.specs.Parts.{value_in_part}
use Rattle.dali_check.specs.Allowed.{FirstFails}
use Rattle.dali_check.proofs.Counting.{parts_few}
use Rattle.dali_check.proofs.Reasons.{at_not_lean, parts_passed}
use Rattle.dali_check.proofs.allowing.check_parts.Goals as goal

pub first_unproved-requires-clause-few : goal.first_unproved-requires-clause-few
first_unproved-requires-clause-few c =
    subst (λ (ps : List Part). length ps ≤ 1024) (sym c.as_slice-parts.ensures) (parts_few c.args.problem.now c.args.choice.now c.items-items.ensures.bounds c.requires.in_range c.requires.whole)

pub first_not_lean-requires-clause-few : goal.first_not_lean-requires-clause-few
first_not_lean-requires-clause-few c =
    subst (λ (ps : List Part). length ps ≤ 1024) (sym c.as_slice-parts.ensures) (parts_few c.args.problem.now c.args.choice.now c.items-items.ensures.bounds c.requires.in_range c.requires.whole)

pub returns-in-Some-first_not_lean-clause-err : goal.returns-in-Some-first_not_lean-clause-err
returns-in-Some-first_not_lean-clause-err c b =
    let p = c.args.problem.now in
    let choice = c.args.choice.now in
    let same = c.as_slice-parts.ensures in
    at_not_lean p b choice c.in-Some-first_not_lean.part (c.requires.passed b)
    (subst (λ (ps : List Part). All (λ (part : Part). proves_part p part ≡ true) ps) same c.in-None.ensures.none)
    (subst (λ (ps : List Part). FirstFails (λ (part : Part). lean_part p part (value_in_part p choice.places part)) ps c.in-Some-first_not_lean.part) same
    c.in-Some-first_not_lean.ensures.some)

pub returns-in-None-first_not_lean-clause-ok : goal.returns-in-None-first_not_lean-clause-ok
returns-in-None-first_not_lean-clause-ok c b =
    let p = c.args.problem.now in
    let choice = c.args.choice.now in
    let same = c.as_slice-parts.ensures in
    parts_passed p b choice (c.requires.passed b)
    (subst (λ (ps : List Part). All (λ (part : Part). proves_part p part ≡ true) ps) same c.in-None.ensures.none)
    (subst (λ (ps : List Part). All (λ (part : Part). lean_part p part (value_in_part p choice.places part) ≡ true) ps) same c.in-None-first_not_lean.ensures.none)
