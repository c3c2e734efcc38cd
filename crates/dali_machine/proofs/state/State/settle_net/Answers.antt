use Rattle.std.proofs.Common.{◌≡◌, List, [], ◌∷◌, ◌++◌, sym, ap, ◌∙◌, subst}
use Rattle.std.specs.Prelude.{IfOk}
use Rattle.dali_account.specs.declared.net.Move.{Move}
use Rattle.dali_line.specs.declared.command.Verb.TheVariants as verbs
use Rattle.dali_machine.specs.Machine.{StateRecord}
use Rattle.dali_machine.specs.StateKept.{machine_of}
use Rattle.dali_machine.specs.Effects.{net_for}
use Rattle.dali_machine.proofs.SettleNet.{net_made}
use Rattle.dali_machine.proofs.state.State.settle_net.Goals as goal

pub returns : goal.returns
returns c = subst (λ (s : StateRecord). IfOk c.net.result (λ (net : List Move). net ≡ net_for s.machine (verbs.Settle c.args.id))) c.self.view_is
    (net_made c.net.result (machine_of c.self.inside) c.args.id c.in-Some.place c.push.new.self
    (c.in_ok-push.ensures.ok ∙ ap (λ ps. ps ++ c.in-Some.place ∷ []) c.new-places.ensures)
    (sym c.place.ensures.place ∙ c.in-Some.is) c.net.ensures.items)
