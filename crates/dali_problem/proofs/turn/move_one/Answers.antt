use Rattle.std.proofs.Common.{◌^◌, arith}
use Rattle.dali_problem.specs.Partial.{is_chosen, is_undecided}
use Rattle.dali_problem.proofs.Lines.{widen}
use Rattle.dali_problem.proofs.Turned.{still_small, still_small_max, still_small_min, moved_by}
use Rattle.dali_problem.proofs.turn.move_one.Goals as goal

pub take_out-requires-clause-held : goal.take_out-requires-clause-held
take_out-requires-clause-held c = widen (2 ^ 100) (2 ^ 125) c.args.sum.now.held (omega arith) c.requires.small.held

pub take_out-requires-clause-credits : goal.take_out-requires-clause-credits
take_out-requires-clause-credits c = widen (2 ^ 100) (2 ^ 125) c.args.sum.now.credits (omega arith) c.requires.small.credits

pub take_out-requires-clause-debits : goal.take_out-requires-clause-debits
take_out-requires-clause-debits c = widen (2 ^ 100) (2 ^ 125) c.args.sum.now.debits (omega arith) c.requires.small.debits

pub put_in-requires-clause-held : goal.put_in-requires-clause-held
put_in-requires-clause-held c = still_small (is_chosen c.args.from) c.args.sum.now.held c.args.effect.now.amount c.take_out.new.sum.held
    c.requires.small.held c.requires.amount c.take_out.ensures.held

pub put_in-requires-clause-credits : goal.put_in-requires-clause-credits
put_in-requires-clause-credits c = still_small_max (is_undecided c.args.from) c.args.sum.now.credits c.args.effect.now.amount c.take_out.new.sum.credits
    c.requires.small.credits c.requires.amount c.take_out.ensures.credits

pub put_in-requires-clause-debits : goal.put_in-requires-clause-debits
put_in-requires-clause-debits c = still_small_min (is_undecided c.args.from) c.args.sum.now.debits c.args.effect.now.amount c.take_out.new.sum.debits
    c.requires.small.debits c.requires.amount c.take_out.ensures.debits

pub returns : goal.returns
returns c = moved_by c.args.sum.now c.take_out.new.sum c.put_in.new.sum c.args.from c.args.to c.args.effect.now.amount
    c.take_out.ensures.held c.take_out.ensures.credits c.take_out.ensures.debits
    c.put_in.ensures.held c.put_in.ensures.credits c.put_in.ensures.debits
