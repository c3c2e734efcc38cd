use Rattle.std.proofs.Common.{false, arith}
use Rattle.std.proofs.lemmas.Bool.{MatchBool-at_false}
use Rattle.dali_reduce.specs.Run.{Clears}
use Rattle.dali_reduce.proofs.Taken.{goes_both}
use Rattle.dali_reduce.proofs.Starting.{stands_on, reduced_settled}
use Rattle.dali_reduce.proofs.reducing.settle_after.Goals as goal

pub go_on-requires-clause-settled : goal.go_on-requires-clause-settled
go_on-requires-clause-settled c =
    let p = c.args.problem.now in
    let clears : Clears p c.args.partial.now.marks c.settle_lines.new.partial.marks c.args.fixes.now c.settle_lines.new.fixes (stands_on c.effects.result.now) =
    MatchBool-at_false _ _ c.if-branch.false c.in_ok-settle_lines.ensures.settled in
    clears.clears 0 (λ _. false) (λ _. false) (omega arith)
    (reduced_settled p c.args.partial.now.marks c.args.fixes.now c.args.place c.effects.result.now c.requires.of.marks c.requires.decided c.effects.ensures.effects c.requires.reduced)

pub returns-clause-goes : goal.returns-clause-goes
returns-clause-goes c =
    goes_both c.args.problem.now c.args.partial.now.marks c.settle_lines.new.partial.marks c.go_on.new.partial.marks
    c.args.fixes.now c.settle_lines.new.fixes c.go_on.new.fixes c.settle_lines.ensures.goes c.go_on.ensures.goes
