use Rattle.std.proofs.Common.{◌∙◌, arith}
use Rattle.dali_base.proofs.Spelled.{number_exact, number_found}
use Rattle.dali_base.proofs.number.read_number.Goals as goal

pub returns-clause-exact : goal.returns-clause-exact
returns-clause-exact c = number_exact c.args.max c.args.bytes.now _ (omega arith) c.number_within.ensures.some c.number_within.ensures.none

pub returns-clause-only : goal.returns-clause-only
returns-clause-only c n is =
    number_exact c.args.max c.args.bytes.now _ (omega arith) c.number_within.ensures.some c.number_within.ensures.none
    ∙ number_found c.args.max c.args.bytes.now n (omega arith) is
