use Rattle.std.proofs.Common.{◌≡◌, ℕ, ◌≤◌, pos, Bool, false, List, [], sym, ap, ◌∙◌, arith}
use Rattle.std.specs.Prelude.{unwrap_or}
use Rattle.std.specs.FinMap as map
use Rattle.std.specs.List.{IsDistinct}
use Rattle.std.proofs.lemmas.List.Elements.{All-nil}
use Rattle.dali_account.specs.Book.{BookRecord}
use Rattle.dali_account.specs.Units.{PairKey, pair_cmp, units_of}
use Rattle.dali_base.specs.declared.kind.Kind.{Kind}
use Rattle.dali_base.specs.declared.kind.Kind.TheVariants as kinds
use Rattle.dali_ledger.specs.declared.posting.Posting.{Posting}
use Rattle.dali_queue.specs.Cutoffs.{LAST, cutoff_of}
use Rattle.dali_queue.specs.declared.cutoffs.Cutoffs.{Cutoffs}
use Rattle.dali_queue.specs.Queue.{Queued, QueueRecord}
use Rattle.dali_machine.specs.Machine.{Machine, opening}
use Rattle.dali_machine.specs.Kept.{AreKnown, IsMachine}

pub same_book : (b : BookRecord) → b.accounts ≡ [] → b.codes ≡ [] → b.balances ≡ map.empty → b.earmarks ≡ map.empty → b ≡ opening.book
same_book b one two three four =
    ap (λ (xs : List (List ℕ)). record { accounts = xs; codes = b.codes; balances = b.balances; earmarks = b.earmarks }) one
    ∙ ap (λ (xs : List (List ℕ × ℕ)). record { accounts = []; codes = xs; balances = b.balances; earmarks = b.earmarks }) two
    ∙ ap (λ xs. record { accounts = []; codes = []; balances = xs; earmarks = b.earmarks }) three
    ∙ ap (λ xs. record { accounts = []; codes = []; balances = map.empty; earmarks = xs }) four

same_cutoffs : (c : Cutoffs) → ((kind : Kind) → cutoff_of c kind ≡ LAST) → c ≡ opening.queue.cutoffs
same_cutoffs c is =
    ap (λ (n : ℕ). record { dvp = n; fop = c.fop; pay = c.pay }) (is kinds.Dvp)
    ∙ ap (λ (n : ℕ). record { dvp = LAST; fop = n; pay = c.pay }) (is kinds.Fop)
    ∙ ap (λ (n : ℕ). record { dvp = LAST; fop = LAST; pay = n }) (is kinds.Pay)

pub same_queue : (q : QueueRecord) → q.waiting ≡ [] → q.used ≡ [] → ((kind : Kind) → cutoff_of q.cutoffs kind ≡ LAST) → q ≡ opening.queue
same_queue q one two three =
    ap (λ (xs : List Queued). record { waiting = xs; used = q.used; cutoffs = q.cutoffs }) one
    ∙ ap (λ (xs : List (List ℕ)). record { waiting = []; used = xs; cutoffs = q.cutoffs }) two
    ∙ ap (λ (c : Cutoffs). record { waiting = []; used = []; cutoffs = c }) (same_cutoffs q.cutoffs three)

pub same_opening : (m : Machine) → m.book ≡ opening.book → m.queue ≡ opening.queue → m.postings ≡ [] → m.greatest ≡ 0 → m.closed ≡ false → m.commands ≡ 0 → m ≡ opening
same_opening m one two three four five six =
    ap (λ (b : BookRecord). record { book = b; queue = m.queue; postings = m.postings; greatest = m.greatest; closed = m.closed; commands = m.commands }) one
    ∙ ap (λ (q : QueueRecord). record { book = opening.book; queue = q; postings = m.postings; greatest = m.greatest; closed = m.closed; commands = m.commands }) two
    ∙ ap (λ (ps : List Posting). record { book = opening.book; queue = opening.queue; postings = ps; greatest = m.greatest; closed = m.closed; commands = m.commands }) three
    ∙ ap (λ (n : ℕ). record { book = opening.book; queue = opening.queue; postings = []; greatest = n; closed = m.closed; commands = m.commands }) four
    ∙ ap (λ (t : Bool). record { book = opening.book; queue = opening.queue; postings = []; greatest = 0; closed = t; commands = m.commands }) five
    ∙ ap (λ (n : ℕ). record { book = opening.book; queue = opening.queue; postings = []; greatest = 0; closed = false; commands = n }) six

no_units : (pair : PairKey) → units_of map.empty pair ≡ 0
no_units pair = ap (λ o. unwrap_or o 0) (map.get-empty pair_cmp pair)

pub opening_kept : IsMachine opening
unfolding IsDistinct
opening_kept = record {
  matched = λ pair. ap pos (sym (no_units pair));
  owned = λ pair absent. no_units pair;
  earmarked = λ pair absent. no_units pair;
  distinct = tt;
  limit = λ asset. omega arith;
  prices = All-nil (λ c. 1 ≤ c.1);
  known = All-nil (λ (w : Queued). AreKnown opening.book w.item);
}
