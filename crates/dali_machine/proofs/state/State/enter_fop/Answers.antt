use Rattle.std.proofs.Common.{ℕ, sym, subst, arith}
use Rattle.dali_machine.specs.Ready.{MayEnter}
use Rattle.dali_base.specs.declared.kind.Kind.TheVariants as kinds
use Rattle.dali_queue.specs.Instruction.{IsAmount}
use Rattle.dali_machine.specs.Refusals.{worth}
use Rattle.dali_machine.proofs.Entering.{may_enter_fop, fop_value}
use Rattle.dali_machine.proofs.state.State.enter_fop.Goals as goal

pub overflow_cast-value : goal.overflow_cast-value
overflow_cast-value c =
    let value : IsAmount (worth c.args.self.now.machine c.args.code c.args.quantity) = fop_value c.args.self.now c.args.id c.args.from c.args.to c.args.code c.args.quantity c.worth-value.ensures.machine c.requires in
    omega (arith, value.to_most, c.worth-value.ensures.worth)

pub enter-requires : goal.enter-requires
enter-requires c = subst (λ (n : ℕ). MayEnter c.args.self.now (record { id = c.args.id; kind = kinds.Fop; giver = c.args.from; taker = c.args.to; code = c.args.code; quantity = c.args.quantity; cash = 0; value = n; rank = 1 }))
    (sym c.worth-value.ensures.worth) (may_enter_fop c.args.self.now c.args.id c.args.from c.args.to c.args.code c.args.quantity c.worth-value.ensures.machine c.requires)
