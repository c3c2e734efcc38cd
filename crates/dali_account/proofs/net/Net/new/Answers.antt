use Rattle.dali_account.proofs.NetLemmas.{net_none}
use Rattle.dali_account.proofs.net.Net.new.Goals as goal

pub invariant_of-result : goal.invariant_of-result
invariant_of-result c = rw c.new.ensures net_none
