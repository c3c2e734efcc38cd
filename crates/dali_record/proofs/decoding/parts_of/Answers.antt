use Rattle.std.proofs.lemmas.Result.{err_from_is_err_and}
use Rattle.dali_record.specs.EntryReading.{parts_at}
use Rattle.dali_record.proofs.ReadLoop.{parts_loop_starts, parts_go_on, parts_end, parts_done}
use Rattle.dali_record.proofs.decoding.parts_of.Goals as goal

pub loop-init : goal.loop-init
loop-init c = rw c.new-parts.ensures (parts_loop_starts c.args.count c.args.left c.args.bytes.now)

pub returns-in_err-part : goal.returns-in_err-part
returns-in_err-part c =
    let p = err_from_is_err_and c.from_residual.result c.from_residual.ensures.1 in
    rw (p.1, p.2) (parts_end c.in_err-part.field-0.0 c.loop.parts c.args.count c.loop.counter c.loop.spare c.loop.rest.now (parts_at c.args.count c.args.left c.args.bytes.now) c.loop-test.true c.in_err-part.ensures c.loop.invariant)

pub loop-preserved : goal.loop-preserved
loop-preserved c =
    rw c.in_ok-push.ensures.ok
    (parts_go_on c.loop.parts c.args.count c.loop.counter c.loop.spare c.loop.rest.now c.in_ok-part.part c.in_ok-part.behind c.in_ok-part.after.now (parts_at c.args.count c.args.left c.args.bytes.now) c.loop-test.true c.in_ok-part.ensures c.loop.invariant)

pub returns : goal.returns
returns c = parts_done c.loop.parts c.args.count c.loop.counter c.loop.spare c.loop.rest.now (parts_at c.args.count c.args.left c.args.bytes.now) c.loop-test.false c.loop.invariant
