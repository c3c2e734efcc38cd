use Rattle.std.proofs.Common.{◌≡◌, ◌∙◌, ◌<◌, ap, arith, length}
use Rattle.dali_queue.proofs.DraftLemmas.{on_ok_then, put_last, put_there}
use Rattle.dali_queue.proofs.eligible.put_place.Goals.{then-number-len+in_ok-push, else-number-len}
use Rattle.dali_queue.proofs.eligible.put_place.Goals as goal

pub returns : goal.returns
returns c = elim c.if-number-len.branch [
  | then-number-len+in_ok-push w ↦
      let is : c.args.number ≡ length c.args.members.now.items = omega arith in
      on_ok_then c.push-2.result (λ pushed. put_last c.args.members.now.items c.if-number-len.members.items c.args.number c.args.place w.new.result c.index_mut.result.now c.push-2.new.self
      (ap (λ v. v.items) w.members-is ∙ w.in_ok-push.ensures.items) w.new.ensures is c.index_mut.ensures.value pushed) c.push-2.ensures.ok
  | else-number-len w ↦
      let within : c.args.number < length c.args.members.now.items = omega arith in
      on_ok_then c.push-2.result (λ pushed. put_there c.args.members.now.items c.if-number-len.members.items c.args.number c.args.place c.index_mut.result.now c.push-2.new.self
      (ap (λ v. v.items) w.members-is) within c.index_mut.ensures.value pushed) c.push-2.ensures.ok
]
