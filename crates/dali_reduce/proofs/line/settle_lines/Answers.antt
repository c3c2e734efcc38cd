use Rattle.std.proofs.Common.{◌+◌, eqb, List, take, pos, get_or, subst}
use Rattle.std.specs.List.{list_any}
use Rattle.std.proofs.lemmas.Bool.{MatchBool-at_false}
use Rattle.std.proofs.lemmas.List.{take_all}
use Rattle.std.proofs.lemmas.List.Folds.{list_any_more}
use Rattle.dali_problem.specs.declared.row.Effect.{Effect}
use Rattle.dali_reduce.specs.Run.{Clears}
use Rattle.dali_reduce.proofs.Taken.{goes_both}
use Rattle.dali_reduce.proofs.Settling.{clears_both, goes_longer}
use Rattle.dali_reduce.proofs.line.settle_lines.Goals as goal

pub returns-in_err-settle_line-clause-goes : goal.returns-in_err-settle_line-clause-goes
returns-in_err-settle_line-clause-goes c =
    goes_both c.args.problem.now c.args.partial.now.marks c.loop-effect.partial.marks c.settle_line.new.partial.marks
    c.args.fixes.now c.loop-effect.fixes c.settle_line.new.fixes c.loop-effect.invariant.goes c.settle_line.ensures.goes

pub returns-then-branch-clause-goes : goal.returns-then-branch-clause-goes
returns-then-branch-clause-goes c =
    goes_both c.args.problem.now c.args.partial.now.marks c.loop-effect.partial.marks c.settle_line.new.partial.marks
    c.args.fixes.now c.loop-effect.fixes c.settle_line.new.fixes c.loop-effect.invariant.goes c.settle_line.ensures.goes

pub loop-effect-preserved : goal.loop-effect-preserved
loop-effect-preserved c =
    let p = c.args.problem.now in
    let es = c.args.effects.now in
    let i = c.loop-effect.effect-index in
    let d : Effect = record { line = 0; amount = pos 0 } in
    let clears : Clears p c.loop-effect.partial.marks c.settle_line.new.partial.marks c.loop-effect.fixes c.settle_line.new.fixes (λ l. eqb (get_or es i d).line l) =
    MatchBool-at_false _ _ c.if-branch.false c.in_ok-settle_line.ensures.settled in
    record {
      of = c.settle_line.ensures.of;
      goes = goes_both p c.args.partial.now.marks c.loop-effect.partial.marks c.settle_line.new.partial.marks
          c.args.fixes.now c.loop-effect.fixes c.settle_line.new.fixes c.loop-effect.invariant.goes c.settle_line.ensures.goes;
      clears = clears_both p c.args.partial.now.marks c.loop-effect.partial.marks c.settle_line.new.partial.marks
          c.args.fixes.now c.loop-effect.fixes c.settle_line.new.fixes
          (λ k. list_any (λ (e : Effect). eqb e.line k) (take i es)) (λ k. eqb (get_or es i d).line k) (λ k. list_any (λ (e : Effect). eqb e.line k) (take (i + 1) es))
          (λ k. list_any_more (λ (e : Effect). eqb e.line k) es i d c.loop-effect-test.true)
          (goes_longer p c.args.partial.now.marks c.loop-effect.partial.marks c.args.fixes.now c.loop-effect.fixes c.loop-effect.invariant.goes)
          c.loop-effect.invariant.clears clears;
    }

pub returns-clause-settled : goal.returns-clause-settled
returns-clause-settled c =
    subst (λ (es : List Effect). Clears c.args.problem.now c.args.partial.now.marks c.loop-effect.partial.marks c.args.fixes.now c.loop-effect.fixes
    (λ k. list_any (λ (e : Effect). eqb e.line k) es)) (take_all c.loop-effect.effect-index c.args.effects.now c.loop-effect-test.false) c.loop-effect.invariant.clears
