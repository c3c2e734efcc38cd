use Rattle.std.proofs.Common.{arith}
use Rattle.std.proofs.lemmas.Int.{ints}
use Rattle.dali_search.proofs.bound.is_at_most.Goals as goal

pub returns-clause-told : goal.returns-clause-told
returns-clause-told c told = omega (arith, ints, c.sum_of_lam-sum.ensures.exact, c.sum_of_lam-above.ensures.exact, c.is_least.ensures told)
