use Rattle.std.proofs.Common.{List, sym, subst}
use Rattle.dali_account.specs.declared.net.Move.{Move}
use Rattle.dali_account.specs.Net.{IsAfter}
use Rattle.dali_account.proofs.NetLemmas.{net_push}
use Rattle.dali_account.proofs.net.Net.push.Goals as goal

pub invariant_of-self-2 : goal.invariant_of-self-2
invariant_of-self-2 c = rw c.in_ok-push.ensures.ok
    (net_push c.self.inside.moves c.args.item c.self.invariant (subst (λ (n : List Move). IsAfter n c.args.item) (sym c.self.view_is) c.requires.after) c.requires.change)
