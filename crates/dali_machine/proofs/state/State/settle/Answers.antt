use Rattle.std.proofs.Common.{List, sym, ap, ◌∙◌, subst}
use Rattle.std.specs.Result.{result_ok}
use Rattle.std.specs.List.{All}
use Rattle.dali_account.specs.Book.{BookRecord}
use Rattle.dali_account.specs.Net.{with_net}
use Rattle.dali_ledger.specs.declared.posting.Posting.{Posting}
use Rattle.dali_line.specs.declared.command.Verb.TheVariants as verbs
use Rattle.dali_queue.specs.Queue.{Queued, QueueRecord, without}
use Rattle.dali_machine.specs.Machine.{StateRecord}
use Rattle.dali_machine.specs.Kept.{AreKnown}
use Rattle.dali_machine.specs.StateKept.{machine_of, record_of}
use Rattle.dali_machine.specs.Effects.{accepted}
use Rattle.dali_machine.specs.Ready.{MayTake, HasNetFor}
use Rattle.dali_machine.proofs.Booking.{IsBooked, sums_fit, machine_booked}
use Rattle.dali_machine.proofs.Machines.{known_without}
use Rattle.dali_machine.proofs.Settling.{IsSettling, settling, settle_queued}
use Rattle.dali_machine.proofs.state.State.settle.Goals as goal

pub unwrap-requires : goal.unwrap-requires
unwrap-requires c =
    let take : MayTake (record_of c.self.inside) (verbs.Settle c.args.id) = subst (λ s. MayTake s (verbs.Settle c.args.id)) (sym c.self.view_is) c.requires.take in
    c.cancel.ensures.gone ∙ settle_queued (machine_of c.self.inside) take.moment c.args.id take.allowed

pub post-requires-clause-known : goal.post-requires-clause-known
post-requires-clause-known c = (settling (record_of c.self.inside) c.args.id c.args.net.now c.unwrap.result c.self.invariant
    (subst (λ s. MayTake s (verbs.Settle c.args.id)) (sym c.self.view_is) c.requires.take) (subst (λ s. HasNetFor s (verbs.Settle c.args.id) c.args.net.now) (sym c.self.view_is) c.requires.net)
    (sym c.cancel.ensures.item ∙ ap result_ok c.unwrap.ensures)).known

pub post-requires-clause-covered : goal.post-requires-clause-covered
post-requires-clause-covered c = (settling (record_of c.self.inside) c.args.id c.args.net.now c.unwrap.result c.self.invariant
    (subst (λ s. MayTake s (verbs.Settle c.args.id)) (sym c.self.view_is) c.requires.take) (subst (λ s. HasNetFor s (verbs.Settle c.args.id) c.args.net.now) (sym c.self.view_is) c.requires.net)
    (sym c.cancel.ensures.item ∙ ap result_ok c.unwrap.ensures)).covered

pub post-requires-clause-limit : goal.post-requires-clause-limit
post-requires-clause-limit c = (settling (record_of c.self.inside) c.args.id c.args.net.now c.unwrap.result c.self.invariant
    (subst (λ s. MayTake s (verbs.Settle c.args.id)) (sym c.self.view_is) c.requires.take) (subst (λ s. HasNetFor s (verbs.Settle c.args.id) c.args.net.now) (sym c.self.view_is) c.requires.net)
    (sym c.cancel.ensures.item ∙ ap result_ok c.unwrap.ensures)).done.limit

pub post-requires-2-clause-sums : goal.post-requires-2-clause-sums
post-requires-2-clause-sums c =
    let facts : IsSettling (machine_of c.self.inside) c.args.id c.args.net.now = settling (record_of c.self.inside) c.args.id c.args.net.now c.unwrap.result c.self.invariant
    (subst (λ s. MayTake s (verbs.Settle c.args.id)) (sym c.self.view_is) c.requires.take) (subst (λ s. HasNetFor s (verbs.Settle c.args.id) c.args.net.now) (sym c.self.view_is) c.requires.net)
    (sym c.cancel.ensures.item ∙ ap result_ok c.unwrap.ensures) in
    sums_fit (machine_of c.self.inside) c.self.invariant c.self.inside.commands (record c.self.inside.book.book { balances = with_net c.self.inside.book.book.balances c.args.net.now }) c.args.net.now facts.done

pub invariant_of-self : goal.invariant_of-self
invariant_of-self c =
    let facts : IsSettling (machine_of c.self.inside) c.args.id c.args.net.now = settling (record_of c.self.inside) c.args.id c.args.net.now c.unwrap.result c.self.invariant
    (subst (λ s. MayTake s (verbs.Settle c.args.id)) (sym c.self.view_is) c.requires.take) (subst (λ s. HasNetFor s (verbs.Settle c.args.id) c.args.net.now) (sym c.self.view_is) c.requires.net)
    (sym c.cancel.ensures.item ∙ ap result_ok c.unwrap.ensures) in
    machine_booked (machine_of c.self.inside) c.self.invariant c.self.inside.commands c.post.new.self.book c.args.net.now
    (subst (λ (b : BookRecord). IsBooked (machine_of c.self.inside) b c.args.net.now) (sym c.post.ensures.book) facts.done)
    c.cancel.new.self.queue c.post-2.new.self.postings c.post-2.ensures.postings
    (subst (λ (q : QueueRecord). All (λ (w : Queued). AreKnown c.self.inside.book.book w.item) q.waiting) (sym c.cancel.ensures.queue) (known_without (machine_of c.self.inside) c.self.invariant c.args.id))

pub returns : goal.returns
returns c =
    let facts : IsSettling (machine_of c.self.inside) c.args.id c.args.net.now = settling (record_of c.self.inside) c.args.id c.args.net.now c.unwrap.result c.self.invariant
    (subst (λ s. MayTake s (verbs.Settle c.args.id)) (sym c.self.view_is) c.requires.take) (subst (λ s. HasNetFor s (verbs.Settle c.args.id) c.args.net.now) (sym c.self.view_is) c.requires.net)
    (sym c.cancel.ensures.item ∙ ap result_ok c.unwrap.ensures) in
    ap (λ (b : BookRecord). record (machine_of c.self.inside) { book = b; queue = c.cancel.new.self.queue; postings = c.post-2.new.self.postings }) c.post.ensures.book
    ∙ ap (λ (q : QueueRecord). record (machine_of c.self.inside) { book = record c.self.inside.book.book { balances = with_net c.self.inside.book.book.balances c.args.net.now }; queue = q; postings = c.post-2.new.self.postings }) c.cancel.ensures.queue
    ∙ ap (λ (ps : List Posting). record (machine_of c.self.inside) {
      book = record c.self.inside.book.book { balances = with_net c.self.inside.book.book.balances c.args.net.now };
      queue = record c.self.inside.queue.queue { waiting = without c.self.inside.queue.queue.waiting c.args.id };
      postings = ps;
    }) c.post-2.ensures.postings
    ∙ sym facts.effect ∙ ap (λ (s : StateRecord). accepted s.machine (verbs.Settle c.args.id)) c.self.view_is
