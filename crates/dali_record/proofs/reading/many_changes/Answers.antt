use Rattle.std.proofs.lemmas.Result.{err_from_is_err_and}
use Rattle.dali_record.specs.Reading.{items_at, multiplier_at}
use Rattle.dali_record.proofs.ReadLoop.{loop_starts, goes_on, ends, is_done}
use Rattle.dali_record.proofs.reading.many_changes.Goals as goal

pub loop-init : goal.loop-init
loop-init c = rw c.new-changes.ensures (loop_starts multiplier_at c.args.count c.args.bytes.now)

pub returns-in_err-change : goal.returns-in_err-change
returns-in_err-change c =
    let p = err_from_is_err_and c.from_residual.result c.from_residual.ensures.1 in
    rw (p.1, p.2) (ends c.in_err-change.field-0.0 multiplier_at c.loop.changes c.args.count c.loop.counter c.loop.rest.now (items_at multiplier_at c.args.count c.args.bytes.now) c.loop-test.true c.in_err-change.ensures c.loop.invariant)

pub loop-preserved : goal.loop-preserved
loop-preserved c =
    rw c.in_ok-push.ensures.ok
    (goes_on multiplier_at c.loop.changes c.args.count c.loop.counter c.loop.rest.now c.in_ok-change.change c.in_ok-change.after.now (items_at multiplier_at c.args.count c.args.bytes.now) c.loop-test.true c.in_ok-change.ensures c.loop.invariant)

pub returns : goal.returns
returns c = is_done multiplier_at c.loop.changes c.args.count c.loop.counter c.loop.rest.now (items_at multiplier_at c.args.count c.args.bytes.now) c.loop-test.false c.loop.invariant
