use Rattle.std.proofs.Common.{◌≡◌, pos, length, List, sym, ap, ◌∙◌, subst, arith}
use Rattle.std.specs.Result.{OnOk}
use Rattle.dali_account.specs.declared.net.Move.{Move}
use Rattle.dali_account.specs.Book.{after_release}
use Rattle.dali_account.specs.Refusals.{release_refusal}
use Rattle.dali_line.specs.declared.command.Verb.TheVariants as verbs
use Rattle.dali_machine.specs.Machine.{StateRecord}
use Rattle.dali_machine.specs.StateKept.{machine_of, record_of}
use Rattle.dali_machine.specs.Effects.{accepted, one_move}
use Rattle.dali_machine.specs.Ready.{MayTake, HasNetFor}
use Rattle.dali_machine.proofs.Booking.{IsBooked, sums_fit, machine_booked}
use Rattle.dali_machine.proofs.Allowed.{answered_ok, release_allowed}
use Rattle.dali_machine.proofs.UnitVerbs.{done_as, release_booked, release_effect, release_net}
use Rattle.dali_machine.proofs.state.State.release.Goals as goal

pub unwrap-requires : goal.unwrap-requires
unwrap-requires c =
    let take : MayTake (record_of c.self.inside) (verbs.Release c.args.account c.args.asset c.args.quantity) = subst (λ s. MayTake s (verbs.Release c.args.account c.args.asset c.args.quantity)) (sym c.self.view_is) c.requires.take in
    let net : HasNetFor (record_of c.self.inside) (verbs.Release c.args.account c.args.asset c.args.quantity) c.args.net.now = subst (λ s. HasNetFor s (verbs.Release c.args.account c.args.asset c.args.quantity) c.args.net.now) (sym c.self.view_is) c.requires.net in
    let one : length c.args.net.now ≡ 1 = ap length (net.is ∙ release_net (machine_of c.self.inside) take.moment c.args.account c.args.asset c.args.quantity) in
    answered_ok c.release.result (release_refusal c.self.inside.book.book c.args.account c.args.asset c.args.quantity)
    (release_allowed (machine_of c.self.inside) take.moment c.args.account c.args.asset c.args.quantity take.allowed) c.release.ensures.refusal (c.release.ensures.spare (omega (arith, one, net.lines)))

pub post-requires-clause-sums : goal.post-requires-clause-sums
post-requires-clause-sums c =
    let take : MayTake (record_of c.self.inside) (verbs.Release c.args.account c.args.asset c.args.quantity) = subst (λ s. MayTake s (verbs.Release c.args.account c.args.asset c.args.quantity)) (sym c.self.view_is) c.requires.take in
    let net : HasNetFor (record_of c.self.inside) (verbs.Release c.args.account c.args.asset c.args.quantity) c.args.net.now = subst (λ s. HasNetFor s (verbs.Release c.args.account c.args.asset c.args.quantity) c.args.net.now) (sym c.self.view_is) c.requires.net in
    let is : c.args.net.now ≡ one_move c.args.account c.args.asset (pos c.args.quantity) = net.is ∙ release_net (machine_of c.self.inside) take.moment c.args.account c.args.asset c.args.quantity in
    let book : c.release.new.self.book ≡ after_release c.self.inside.book.book c.args.account c.args.asset c.args.quantity =
    subst (λ r. OnOk r (c.release.new.self.book ≡ after_release c.self.inside.book.book c.args.account c.args.asset c.args.quantity)) c.unwrap.ensures c.release.ensures.ok in
    let done : IsBooked (machine_of c.self.inside) c.release.new.self.book c.args.net.now =
    subst (λ (net : List Move). IsBooked (machine_of c.self.inside) c.release.new.self.book net) (sym is)
    (release_booked (machine_of c.self.inside) take.moment c.args.account c.args.asset c.args.quantity c.release.new.self.book c.self.invariant take.allowed book c.release.ensures.totals) in
    sums_fit (machine_of c.self.inside) c.self.invariant c.self.inside.commands c.release.new.self.book c.args.net.now done

pub invariant_of-self : goal.invariant_of-self
invariant_of-self c =
    let take : MayTake (record_of c.self.inside) (verbs.Release c.args.account c.args.asset c.args.quantity) = subst (λ s. MayTake s (verbs.Release c.args.account c.args.asset c.args.quantity)) (sym c.self.view_is) c.requires.take in
    let net : HasNetFor (record_of c.self.inside) (verbs.Release c.args.account c.args.asset c.args.quantity) c.args.net.now = subst (λ s. HasNetFor s (verbs.Release c.args.account c.args.asset c.args.quantity) c.args.net.now) (sym c.self.view_is) c.requires.net in
    let is : c.args.net.now ≡ one_move c.args.account c.args.asset (pos c.args.quantity) = net.is ∙ release_net (machine_of c.self.inside) take.moment c.args.account c.args.asset c.args.quantity in
    let book : c.release.new.self.book ≡ after_release c.self.inside.book.book c.args.account c.args.asset c.args.quantity =
    subst (λ r. OnOk r (c.release.new.self.book ≡ after_release c.self.inside.book.book c.args.account c.args.asset c.args.quantity)) c.unwrap.ensures c.release.ensures.ok in
    let done : IsBooked (machine_of c.self.inside) c.release.new.self.book c.args.net.now =
    subst (λ (net : List Move). IsBooked (machine_of c.self.inside) c.release.new.self.book net) (sym is)
    (release_booked (machine_of c.self.inside) take.moment c.args.account c.args.asset c.args.quantity c.release.new.self.book c.self.invariant take.allowed book c.release.ensures.totals) in
    machine_booked (machine_of c.self.inside) c.self.invariant c.self.inside.commands c.release.new.self.book c.args.net.now done c.self.inside.queue.queue c.post.new.self.postings c.post.ensures.postings c.self.invariant.known

pub returns : goal.returns
returns c =
    let net : HasNetFor (record_of c.self.inside) (verbs.Release c.args.account c.args.asset c.args.quantity) c.args.net.now = subst (λ s. HasNetFor s (verbs.Release c.args.account c.args.asset c.args.quantity) c.args.net.now) (sym c.self.view_is) c.requires.net in
    let book : c.release.new.self.book ≡ after_release c.self.inside.book.book c.args.account c.args.asset c.args.quantity =
    subst (λ r. OnOk r (c.release.new.self.book ≡ after_release c.self.inside.book.book c.args.account c.args.asset c.args.quantity)) c.unwrap.ensures c.release.ensures.ok in
    done_as (machine_of c.self.inside) (verbs.Release c.args.account c.args.asset c.args.quantity) c.release.new.self.book (after_release c.self.inside.book.book c.args.account c.args.asset c.args.quantity)
    c.args.net.now (one_move c.args.account c.args.asset (pos c.args.quantity)) c.post.new.self.postings (release_effect (machine_of c.self.inside) 0 c.args.account c.args.asset c.args.quantity) book
    (net.is ∙ release_net (machine_of c.self.inside) 0 c.args.account c.args.asset c.args.quantity) c.post.ensures.postings
    ∙ ap (λ (s : StateRecord). accepted s.machine (verbs.Release c.args.account c.args.asset c.args.quantity)) c.self.view_is
