use Rattle.std.proofs.Common.{sym}
use Rattle.dali_gateway.proofs.Cutting.{cut_ended, cut_last}
use Rattle.dali_gateway.proofs.inbox.first_line.Goals as goal

pub returns-in-Some : goal.returns-in-Some
returns-in-Some c =
    cut_ended c.args.bytes.now c.in-Some.at c.without_return.result (sym c.in-Some.ensures) c.without_return.ensures.within c.without_return.ensures.front

pub returns-in-None : goal.returns-in-None
returns-in-None c = cut_last c.args.bytes.now c.requires (sym c.in-None.ensures)
