use Rattle.dali_gateway.proofs.Merging.{keeps_order}
use Rattle.dali_gateway.proofs.order.keep_order.Goals as goal

pub returns : goal.returns
returns c = λ inboxes turns. keeps_order inboxes turns
