use Rattle.std.proofs.Common.{length, ap}
use Rattle.std.specs.List.{list_all}
use Rattle.dali_tree.specs.Fits.{fix_fits}
use Rattle.dali_reduce.proofs.Taken.{goes_both, goes_fit}
use Rattle.dali_reduce.proofs.reducing.settle_all.Goals as goal

pub returns-in_err-settle_each-clause-goes : goal.returns-in_err-settle_each-clause-goes
returns-in_err-settle_each-clause-goes c =
    goes_both c.args.problem.now c.args.partial.now.marks c.take_safe.new.partial.marks c.settle_each.new.partial.marks
    c.args.fixes.now c.take_safe.new.fixes c.settle_each.new.fixes c.take_safe.ensures.goes c.settle_each.ensures.goes

pub returns-then-branch-clause-goes : goal.returns-then-branch-clause-goes
returns-then-branch-clause-goes c =
    goes_both c.args.problem.now c.args.partial.now.marks c.take_safe.new.partial.marks c.settle_each.new.partial.marks
    c.args.fixes.now c.take_safe.new.fixes c.settle_each.new.fixes c.take_safe.ensures.goes c.settle_each.ensures.goes

pub go_on-requires-clause-fit : goal.go_on-requires-clause-fit
go_on-requires-clause-fit c =
    goes_fit c.args.problem.now c.take_safe.new.partial.marks c.settle_each.new.partial.marks c.take_safe.new.fixes c.settle_each.new.fixes c.settle_each.ensures.goes
    (goes_fit c.args.problem.now c.args.partial.now.marks c.take_safe.new.partial.marks c.args.fixes.now c.take_safe.new.fixes c.take_safe.ensures.goes
    (ap (list_all (fix_fits (length c.args.problem.now.items) (length c.args.problem.now.lines))) c.requires.none))

pub returns-clause-goes : goal.returns-clause-goes
returns-clause-goes c =
    goes_both c.args.problem.now c.args.partial.now.marks c.settle_each.new.partial.marks c.go_on.new.partial.marks
    c.args.fixes.now c.settle_each.new.fixes c.go_on.new.fixes
    (goes_both c.args.problem.now c.args.partial.now.marks c.take_safe.new.partial.marks c.settle_each.new.partial.marks
    c.args.fixes.now c.take_safe.new.fixes c.settle_each.new.fixes c.take_safe.ensures.goes c.settle_each.ensures.goes) c.go_on.ensures.goes
