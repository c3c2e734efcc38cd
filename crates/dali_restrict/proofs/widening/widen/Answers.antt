use Rattle.std.proofs.Common.{◌∙◌, ℕ, List, length, ap, sym, subst}
use Rattle.dali_tree.specs.declared.choice.Part.{Part}
use Rattle.dali_tree.specs.Fits.{PartFits}
use Rattle.dali_tree.specs.Tree.{branch_count}
use Rattle.dali_check.specs.Proves.{proves_part}
use Rattle.dali_check.specs.Lean.{lean_part}
use Rattle.dali_restrict.specs.Widened.{wide_part}
use Rattle.dali_restrict.proofs.Fitting.{tree_widens}
use Rattle.dali_restrict.proofs.Parted.{part_proves, part_lean, part_fits}
use Rattle.dali_restrict.proofs.Renumber.{part_of}
use Rattle.dali_restrict.proofs.widening.widen.Goals as goal

pub returns-clause-proves : goal.returns-clause-proves
returns-clause-proves c =
    let is = c.in_ok-wide.ensures ∙ ap (λ (xs : List ℕ). wide_part xs c.as_slice-lines.result.now c.args.part.now) c.as_slice-places.ensures ∙ ap (λ (xs : List ℕ). wide_part c.args.inner.now.places xs c.args.part.now) c.as_slice-lines.ensures in
    ap (proves_part c.args.problem.now) is
    ∙ part_proves c.args.problem.now c.args.inner.now.problem c.args.inner.now.places c.args.inner.now.lines c.args.part.now
    (part_of c.args.problem.now c.args.inner.now.problem c.args.inner.now.places c.args.inner.now.lines c.items-items.ensures.bounds c.requires.restriction) c.requires.in_range

pub returns-clause-lean : goal.returns-clause-lean
returns-clause-lean c v =
    let is = c.in_ok-wide.ensures ∙ ap (λ (xs : List ℕ). wide_part xs c.as_slice-lines.result.now c.args.part.now) c.as_slice-places.ensures ∙ ap (λ (xs : List ℕ). wide_part c.args.inner.now.places xs c.args.part.now) c.as_slice-lines.ensures in
    ap (λ (part : Part). lean_part c.args.problem.now part v) is
    ∙ part_lean c.args.problem.now c.args.inner.now.problem c.args.inner.now.places c.args.inner.now.lines c.args.part.now
    (part_of c.args.problem.now c.args.inner.now.problem c.args.inner.now.places c.args.inner.now.lines c.items-items.ensures.bounds c.requires.restriction) c.requires.in_range v

pub returns-clause-fits : goal.returns-clause-fits
returns-clause-fits c fits =
    let is = c.in_ok-wide.ensures ∙ ap (λ (xs : List ℕ). wide_part xs c.as_slice-lines.result.now c.args.part.now) c.as_slice-places.ensures ∙ ap (λ (xs : List ℕ). wide_part c.args.inner.now.places xs c.args.part.now) c.as_slice-lines.ensures in
    subst (PartFits (length c.args.problem.now.items) (length c.args.problem.now.lines)) (sym is)
    (part_fits c.args.problem.now c.args.inner.now.problem c.args.inner.now.places c.args.inner.now.lines c.args.part.now
    (part_of c.args.problem.now c.args.inner.now.problem c.args.inner.now.places c.args.inner.now.lines c.items-items.ensures.bounds c.requires.restriction) c.requires.in_range fits)

pub returns-clause-branches : goal.returns-clause-branches
returns-clause-branches c =
    let is = c.in_ok-wide.ensures ∙ ap (λ (xs : List ℕ). wide_part xs c.as_slice-lines.result.now c.args.part.now) c.as_slice-places.ensures ∙ ap (λ (xs : List ℕ). wide_part c.args.inner.now.places xs c.args.part.now) c.as_slice-lines.ensures in
    let whole = part_of c.args.problem.now c.args.inner.now.problem c.args.inner.now.places c.args.inner.now.lines c.items-items.ensures.bounds c.requires.restriction in
    ap (λ (part : Part). branch_count part.tree) is
    ∙ (tree_widens (length c.args.problem.now.items) (length c.args.problem.now.lines) c.args.inner.now.places c.args.inner.now.lines whole.members whole.changed c.args.part.now.tree).count
