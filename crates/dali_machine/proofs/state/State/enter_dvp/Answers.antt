use Rattle.dali_machine.proofs.Entering.{may_enter_dvp}
use Rattle.dali_machine.proofs.state.State.enter_dvp.Goals as goal

pub enter-requires : goal.enter-requires
enter-requires c = may_enter_dvp c.args.self.now c.args.id c.args.seller c.args.buyer c.args.code c.args.quantity c.args.cash c.requires
