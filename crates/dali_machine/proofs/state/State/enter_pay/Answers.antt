use Rattle.std.proofs.Common.{ℕ, List, sym, subst}
use Rattle.dali_machine.specs.Ready.{MayEnter}
use Rattle.dali_base.specs.declared.kind.Kind.TheVariants as kinds
use Rattle.dali_machine.proofs.Entering.{may_enter_pay}
use Rattle.dali_machine.proofs.state.State.enter_pay.Goals as goal

pub enter-requires : goal.enter-requires
enter-requires c = subst (λ (asset : List ℕ). MayEnter c.args.self.now (record { id = c.args.id; kind = kinds.Pay; giver = c.args.from; taker = c.args.to; code = asset; quantity = c.args.cash; cash = 0; value = c.args.cash; rank = 1 }))
    (sym c.cash_name.ensures) (may_enter_pay c.args.self.now c.args.id c.args.from c.args.to c.args.cash c.requires)
