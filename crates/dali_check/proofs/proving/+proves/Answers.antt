use Rattle.std.proofs.Common.{◌≡◌, ℕ, Bool, Some, None, arith, List, length, sym, set, if◌then◌else◌, ap, ◌∙◌}
use Rattle.std.proofs.lemmas.Bool.{ne_eqb}
use Rattle.dali_problem.specs.declared.mark.Mark.{Mark}
use Rattle.dali_problem.specs.declared.mark.Mark.TheVariants.{Undecided, Chosen, Left}
use Rattle.dali_check.proofs.Bounded.{tree_most}
use Rattle.dali_check.proofs.Entering.{put_back}
use Rattle.dali_fixes.specs.Fixed.{after}
use Rattle.dali_problem.specs.Clearing.{Clearing}
use Rattle.dali_tree.specs.declared.tree.Tree.{Tree}
use Rattle.dali_tree.specs.declared.tree.End.TheFolds.{fold_out-Tree}
use Rattle.dali_check.specs.Sides.{when_fixed}
use Rattle.dali_check.specs.Proves.{proves_end, proves_tree}
use Rattle.dali_check.specs.Ends.{proves_ends}
use Rattle.dali_check.proofs.proving.+proves.Goals.{node-then-taken-fixes, node-else-taken-fixes}
use Rattle.dali_check.proofs.proving.+proves.Goals as goal

pub side-returns-clause-marks : goal.side-returns-clause-marks
side-returns-clause-marks t c =
    c.free.ensures.marks
    ∙ ap (λ (f : List Mark). set f c.args.place Undecided) (c.node-proved.ensures.marks ∙ c.fix.ensures.marks)
    ∙ put_back c.args.partial.now.marks c.args.place (if c.args.chosen then Chosen else Left) c.requires.undecided

-- what a tree proves, by its fixes and its end
tree_out : (p : Clearing) (u : ℕ) (t : Tree) (f : List Mark) → proves_tree p u t f ≡ when_fixed (after p t.fixes f) (proves_ends p u t.end)
tree_out p u t f = ap (λ (test : List Mark → Bool). test f) (fold_out-Tree (List Mark → Bool) (List Mark → Bool) (proves_end p u) (λ node g. when_fixed (after p node.fixes g) node.end) t)

pub node-returns-clause-answer : goal.node-returns-clause-answer
node-returns-clause-answer t c =
    let p = c.args.problem.now in
    let tree : Tree = c.args.tree.now in
    let f : List Mark = c.args.partial.now.marks in
    elim c.if-taken-fixes.branch as (λ _. c.if-taken-fixes.proved ≡ proves_tree p c.args.bound tree f) [
      | node-then-taken-fixes w ↦
          let led : after p tree.fixes f ≡ Some c.apply-taken.new.partial.marks =
          ap (λ xs. after p xs f) (sym c.as_slice-fixes.ensures) ∙ c.apply-taken.ensures.all w.if-taken-fixes.true in
          w.proved-is ∙ w.end-proved.ensures.answer
          ∙ sym (tree_out p c.args.bound tree f ∙ ap (λ to. when_fixed to (proves_ends p c.args.bound tree.end)) led)
      | node-else-taken-fixes w ↦
          let none : after p tree.fixes f ≡ None =
          ap (λ xs. after p xs f) (sym c.as_slice-fixes.ensures) ∙ c.apply-taken.ensures.none (omega (arith, c.apply-taken.ensures.within, w.if-taken-fixes.false)) in
          w.proved-is ∙ ne_eqb c.apply-taken.result (length c.as_slice-fixes.result.now) w.if-taken-fixes.false
          ∙ sym (tree_out p c.args.bound tree f ∙ ap (λ to. when_fixed to (proves_ends p c.args.bound tree.end)) none)
    ]

pub node-returns-clause-bound : goal.node-returns-clause-bound
node-returns-clause-bound t c told s places feasible agrees =
    tree_most c.args.problem.now c.args.bound c.args.tree.now c.args.partial.now.marks s c.items-items.ensures.bounds c.requires.of.marks
    (sym (node-returns-clause-answer t c) ∙ told) places feasible agrees
