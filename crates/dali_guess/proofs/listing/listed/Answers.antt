use Rattle.std.proofs.Common.{◌≡◌, ◌++◌, ◌∷◌, [], ℕ, List, sym, subst, ◌∙◌, ◌+◌, length, arith}
use Rattle.dali_lagrange.specs.Multipliers.{AreMultipliers}
use Rattle.dali_lagrange.proofs.Lists.{fits_of}
use Rattle.dali_guess.proofs.Lists.{ListsBelow, lists_more, lists_wider}
use Rattle.dali_guess.proofs.listing.listed.Goals.{then-multiplier-gt0+in_ok-push, else-multiplier-gt0}
use Rattle.dali_guess.proofs.listing.listed.Goals as goal

pub loop-line-preserved : goal.loop-line-preserved
loop-line-preserved c =
    let xs : List (ℕ × ℕ) = c.loop-line.lam in
    let i : ℕ = c.loop-line.line in
    elim c.if-multiplier-gt0.branch [
      | then-multiplier-gt0+in_ok-push w ↦
          record {
            lists = subst (ListsBelow (i + 1)) (sym (w.lam-is ∙ w.in_ok-push.ensures.ok))
                (lists_more i c.in_range-multiplier.result xs c.loop-line.invariant.lists w.if-multiplier-gt0.true c.in_range-multiplier.ensures);
          }
      | else-multiplier-gt0 w ↦
          record { lists = subst (ListsBelow (i + 1)) (sym w.lam-is) (lists_wider i xs c.loop-line.invariant.lists) }
    ]

pub returns : goal.returns
returns c =
    let all : c.loop-line.line ≡ length c.args.problem.now.lines = omega arith in
    let lists : ListsBelow (length c.args.problem.now.lines) c.loop-line.lam = subst (λ n. ListsBelow n c.loop-line.lam) all c.loop-line.invariant.lists in
    fits_of (length c.args.problem.now.lines) c.loop-line.lam lists.are lists.not_zero
