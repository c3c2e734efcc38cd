use Rattle.std.proofs.Common.{sym, subst}
use Rattle.std.specs.List.{All}
use Rattle.dali_account.specs.Book.{BookRecord}
use Rattle.dali_account.specs.Net.{with_net}
use Rattle.dali_queue.specs.Queue.{Queued, QueueRecord}
use Rattle.dali_machine.specs.Kept.{AreKnown}
use Rattle.dali_machine.specs.StateKept.{machine_of, record_of}
use Rattle.dali_machine.specs.Ready.{IsSet}
use Rattle.dali_machine.proofs.Booking.{IsBooked, sums_fit, machine_booked}
use Rattle.dali_machine.proofs.Cycling.{IsBooking, booking, all_left}
use Rattle.dali_machine.proofs.state.State.book_set.Goals as goal

pub post-requires-clause-known : goal.post-requires-clause-known
post-requires-clause-known c = (booking (record_of c.self.inside) c.args.places.now c.args.net.now c.self.invariant (subst (λ s. IsSet s c.args.places.now c.args.net.now) (sym c.self.view_is) c.requires)).known

pub post-requires-clause-limit : goal.post-requires-clause-limit
post-requires-clause-limit c = (booking (record_of c.self.inside) c.args.places.now c.args.net.now c.self.invariant (subst (λ s. IsSet s c.args.places.now c.args.net.now) (sym c.self.view_is) c.requires)).done.limit

pub post-requires-2-clause-sums : goal.post-requires-2-clause-sums
post-requires-2-clause-sums c =
    let facts : IsBooking (machine_of c.self.inside) c.args.net.now = booking (record_of c.self.inside) c.args.places.now c.args.net.now c.self.invariant (subst (λ s. IsSet s c.args.places.now c.args.net.now) (sym c.self.view_is) c.requires) in
    sums_fit (machine_of c.self.inside) c.self.invariant c.self.inside.commands (record c.self.inside.book.book { balances = with_net c.self.inside.book.book.balances c.args.net.now }) c.args.net.now facts.done

pub invariant_of-self : goal.invariant_of-self
invariant_of-self c =
    let facts : IsBooking (machine_of c.self.inside) c.args.net.now = booking (record_of c.self.inside) c.args.places.now c.args.net.now c.self.invariant (subst (λ s. IsSet s c.args.places.now c.args.net.now) (sym c.self.view_is) c.requires) in
    machine_booked (machine_of c.self.inside) c.self.invariant c.self.inside.commands c.post.new.self.book c.args.net.now
    (subst (λ (b : BookRecord). IsBooked (machine_of c.self.inside) b c.args.net.now) (sym c.post.ensures.book) facts.done)
    c.remove_all.new.self.queue c.post-2.new.self.postings c.post-2.ensures.postings
    (subst (λ (q : QueueRecord). All (λ (w : Queued). AreKnown c.self.inside.book.book w.item) q.waiting) (sym c.remove_all.ensures.queue)
    (all_left (λ (w : Queued). AreKnown c.self.inside.book.book w.item) c.args.places.now 0 c.self.inside.queue.queue.waiting c.self.invariant.known))
