use Rattle.std.proofs.Common.{[], refl, arith}
use Rattle.dali_gateway.specs.Language.{Ended, AtEnd}
use Rattle.dali_gateway.proofs.Leaving.{leaves_letters}
use Rattle.dali_gateway.proofs.Tails.{some_ended}
use Rattle.dali_gateway.proofs.form.read_letters.Goals as goal

pub returns-in-None-clause-form : goal.returns-in-None-clause-form
returns-in-None-clause-form c =
    leaves_letters c.args.inboxes c.args.count c.args.bytes.now c.letters.turns c.letters.rest.now (Ended AtEnd) c.requires (omega arith)
    c.letters.invariant.known c.letters.invariant.text c.in-None.ensures.none (some_ended AtEnd ([], refl))
