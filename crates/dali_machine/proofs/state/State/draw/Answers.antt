use Rattle.std.proofs.Common.{◌≡◌, ◌+◌, pos, neg_ℤ, length, List, sym, ap, ◌∙◌, subst}
use Rattle.std.specs.Result.{OnOk}
use Rattle.dali_account.specs.declared.net.Move.{Move}
use Rattle.dali_account.specs.Book.{total_of, drawn}
use Rattle.dali_account.specs.Refusals.{draw_refusal}
use Rattle.dali_line.specs.declared.command.Verb.TheVariants as verbs
use Rattle.dali_machine.specs.Machine.{StateRecord}
use Rattle.dali_machine.specs.StateKept.{machine_of, record_of}
use Rattle.dali_machine.specs.Effects.{accepted, one_move}
use Rattle.dali_machine.specs.Ready.{MayTake, HasNetFor}
use Rattle.dali_machine.proofs.Booking.{IsBooked, sums_fit, machine_booked}
use Rattle.dali_machine.proofs.Allowed.{answered_ok, draw_allowed}
use Rattle.dali_machine.proofs.UnitVerbs.{done_as, draw_booked, draw_effect, draw_net}
use Rattle.dali_machine.proofs.state.State.draw.Goals as goal

pub unwrap-requires : goal.unwrap-requires
unwrap-requires c =
    let take : MayTake (record_of c.self.inside) (verbs.Draw c.args.account c.args.asset c.args.quantity) = subst (λ s. MayTake s (verbs.Draw c.args.account c.args.asset c.args.quantity)) (sym c.self.view_is) c.requires.take in
    let net : HasNetFor (record_of c.self.inside) (verbs.Draw c.args.account c.args.asset c.args.quantity) c.args.net.now = subst (λ s. HasNetFor s (verbs.Draw c.args.account c.args.asset c.args.quantity) c.args.net.now) (sym c.self.view_is) c.requires.net in
    let one : length c.args.net.now ≡ 1 = ap length (net.is ∙ draw_net (machine_of c.self.inside) take.moment c.args.account c.args.asset c.args.quantity) in
    answered_ok c.draw.result (draw_refusal c.self.inside.book.book c.args.account c.args.asset c.args.quantity)
    (draw_allowed (machine_of c.self.inside) take.moment c.args.account c.args.asset c.args.quantity take.allowed) c.draw.ensures.refusal c.draw.ensures.memory

pub post-requires-clause-sums : goal.post-requires-clause-sums
post-requires-clause-sums c =
    let take : MayTake (record_of c.self.inside) (verbs.Draw c.args.account c.args.asset c.args.quantity) = subst (λ s. MayTake s (verbs.Draw c.args.account c.args.asset c.args.quantity)) (sym c.self.view_is) c.requires.take in
    let net : HasNetFor (record_of c.self.inside) (verbs.Draw c.args.account c.args.asset c.args.quantity) c.args.net.now = subst (λ s. HasNetFor s (verbs.Draw c.args.account c.args.asset c.args.quantity) c.args.net.now) (sym c.self.view_is) c.requires.net in
    let is : c.args.net.now ≡ one_move c.args.account c.args.asset (neg_ℤ (pos c.args.quantity)) = net.is ∙ draw_net (machine_of c.self.inside) take.moment c.args.account c.args.asset c.args.quantity in
    let book : c.draw.new.self.book ≡ drawn c.self.inside.book.book c.args.account c.args.asset c.args.quantity =
    subst (λ r. OnOk r (c.draw.new.self.book ≡ drawn c.self.inside.book.book c.args.account c.args.asset c.args.quantity)) c.unwrap.ensures c.draw.ensures.ok in
    let total : total_of c.draw.new.self.book c.args.asset + c.args.quantity ≡ total_of c.self.inside.book.book c.args.asset =
    subst (λ r. OnOk r (total_of c.draw.new.self.book c.args.asset + c.args.quantity ≡ total_of c.self.inside.book.book c.args.asset)) c.unwrap.ensures c.draw.ensures.total in
    let done : IsBooked (machine_of c.self.inside) c.draw.new.self.book c.args.net.now =
    subst (λ (net : List Move). IsBooked (machine_of c.self.inside) c.draw.new.self.book net) (sym is)
    (draw_booked (machine_of c.self.inside) take.moment c.args.account c.args.asset c.args.quantity c.draw.new.self.book c.self.invariant take.allowed book total c.draw.ensures.others) in
    sums_fit (machine_of c.self.inside) c.self.invariant c.self.inside.commands c.draw.new.self.book c.args.net.now done

pub invariant_of-self : goal.invariant_of-self
invariant_of-self c =
    let take : MayTake (record_of c.self.inside) (verbs.Draw c.args.account c.args.asset c.args.quantity) = subst (λ s. MayTake s (verbs.Draw c.args.account c.args.asset c.args.quantity)) (sym c.self.view_is) c.requires.take in
    let net : HasNetFor (record_of c.self.inside) (verbs.Draw c.args.account c.args.asset c.args.quantity) c.args.net.now = subst (λ s. HasNetFor s (verbs.Draw c.args.account c.args.asset c.args.quantity) c.args.net.now) (sym c.self.view_is) c.requires.net in
    let is : c.args.net.now ≡ one_move c.args.account c.args.asset (neg_ℤ (pos c.args.quantity)) = net.is ∙ draw_net (machine_of c.self.inside) take.moment c.args.account c.args.asset c.args.quantity in
    let book : c.draw.new.self.book ≡ drawn c.self.inside.book.book c.args.account c.args.asset c.args.quantity =
    subst (λ r. OnOk r (c.draw.new.self.book ≡ drawn c.self.inside.book.book c.args.account c.args.asset c.args.quantity)) c.unwrap.ensures c.draw.ensures.ok in
    let total : total_of c.draw.new.self.book c.args.asset + c.args.quantity ≡ total_of c.self.inside.book.book c.args.asset =
    subst (λ r. OnOk r (total_of c.draw.new.self.book c.args.asset + c.args.quantity ≡ total_of c.self.inside.book.book c.args.asset)) c.unwrap.ensures c.draw.ensures.total in
    let done : IsBooked (machine_of c.self.inside) c.draw.new.self.book c.args.net.now =
    subst (λ (net : List Move). IsBooked (machine_of c.self.inside) c.draw.new.self.book net) (sym is)
    (draw_booked (machine_of c.self.inside) take.moment c.args.account c.args.asset c.args.quantity c.draw.new.self.book c.self.invariant take.allowed book total c.draw.ensures.others) in
    machine_booked (machine_of c.self.inside) c.self.invariant c.self.inside.commands c.draw.new.self.book c.args.net.now done c.self.inside.queue.queue c.post.new.self.postings c.post.ensures.postings c.self.invariant.known

pub returns : goal.returns
returns c =
    let net : HasNetFor (record_of c.self.inside) (verbs.Draw c.args.account c.args.asset c.args.quantity) c.args.net.now = subst (λ s. HasNetFor s (verbs.Draw c.args.account c.args.asset c.args.quantity) c.args.net.now) (sym c.self.view_is) c.requires.net in
    let book : c.draw.new.self.book ≡ drawn c.self.inside.book.book c.args.account c.args.asset c.args.quantity =
    subst (λ r. OnOk r (c.draw.new.self.book ≡ drawn c.self.inside.book.book c.args.account c.args.asset c.args.quantity)) c.unwrap.ensures c.draw.ensures.ok in
    done_as (machine_of c.self.inside) (verbs.Draw c.args.account c.args.asset c.args.quantity) c.draw.new.self.book (drawn c.self.inside.book.book c.args.account c.args.asset c.args.quantity)
    c.args.net.now (one_move c.args.account c.args.asset (neg_ℤ (pos c.args.quantity))) c.post.new.self.postings (draw_effect (machine_of c.self.inside) 0 c.args.account c.args.asset c.args.quantity) book
    (net.is ∙ draw_net (machine_of c.self.inside) 0 c.args.account c.args.asset c.args.quantity) c.post.ensures.postings
    ∙ ap (λ (s : StateRecord). accepted s.machine (verbs.Draw c.args.account c.args.asset c.args.quantity)) c.self.view_is
