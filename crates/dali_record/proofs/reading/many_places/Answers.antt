use Rattle.std.proofs.lemmas.Result.{err_from_is_err_and}
use Rattle.dali_record.specs.Reading.{items_at, place_at}
use Rattle.dali_record.proofs.ReadLoop.{loop_starts, goes_on, ends, is_done}
use Rattle.dali_record.proofs.reading.many_places.Goals as goal

pub loop-init : goal.loop-init
loop-init c = rw c.new-places.ensures (loop_starts place_at c.args.count c.args.bytes.now)

pub returns-in_err-place : goal.returns-in_err-place
returns-in_err-place c =
    let p = err_from_is_err_and c.from_residual.result c.from_residual.ensures.1 in
    rw (p.1, p.2) (ends c.in_err-place.field-0.0 place_at c.loop.places c.args.count c.loop.counter c.loop.rest.now (items_at place_at c.args.count c.args.bytes.now) c.loop-test.true c.in_err-place.ensures c.loop.invariant)

pub loop-preserved : goal.loop-preserved
loop-preserved c =
    rw c.in_ok-push.ensures.ok
    (goes_on place_at c.loop.places c.args.count c.loop.counter c.loop.rest.now c.in_ok-place.place c.in_ok-place.after.now (items_at place_at c.args.count c.args.bytes.now) c.loop-test.true c.in_ok-place.ensures c.loop.invariant)

pub returns : goal.returns
returns c = is_done place_at c.loop.places c.args.count c.loop.counter c.loop.rest.now (items_at place_at c.args.count c.args.bytes.now) c.loop-test.false c.loop.invariant
