use Rattle.std.proofs.Common.{◌≡◌, ℕ, ◌+◌, ◌-◌, pos, neg_ℤ, ◌+ℤ◌, ◌-ℤ◌, Bool, true, false, not, List, [], ◌∷◌, ◌++◌, Option, Some, None, nat_lt, refl, sym, ap, ◌∙◌, subst, arith}
use Rattle.std.proofs.lemmas.Int.{ints}
use Rattle.std.proofs.lemmas.List.Sums.{sum_by_push}
use Rattle.dali_account.specs.Book.{has_account, knows_pair, balance_of, earmark_of, total_of, with_pair}
use Rattle.dali_base.specs.Limits.{most_total}
use Rattle.dali_account.specs.Units.{units_of}
use Rattle.dali_account.proofs.SumLemmas.{same_name_is, same_name_symm, first_true, held_other, held_moved}
use Rattle.dali_problem.specs.Sums.{pick}
use Rattle.dali_queue.specs.declared.instruction.Instruction.{Instruction}
use Rattle.dali_queue.specs.Queue.{item_of}
use Rattle.dali_line.specs.declared.command.Verb.{Verb}
use Rattle.dali_line.specs.declared.command.Verb.TheVariants as verbs
use Rattle.std.specs.Prelude.{IfSome}
use Rattle.dali_base.specs.Readers.{same_bytes}
use Rattle.dali_machine.specs.Cycles.{Cycling}
use Rattle.dali_machine.specs.Machine.{Machine, StateRecord}
use Rattle.dali_machine.specs.Kept.{IsMachine}
use Rattle.dali_machine.specs.declared.outcome.Code.TheVariants.{Name, Total, Short}
use Rattle.dali_machine.specs.declared.judged.Judged.{Judged}
use Rattle.dali_machine.specs.declared.judged.Judged.TheVariants as judgements
use Rattle.dali_machine.specs.Refusals.{refusal}
use Rattle.dali_machine.specs.Effects.{accepted, settled}
use Rattle.dali_machine.specs.Step.{one_command_more, at_moment, turn}
use Rattle.dali_machine.specs.Ready.{ReadyRecord, IsAllowed, CanBook, CanCommit, cycle_in}
use Rattle.dali_machine.specs.Totals.{total_change, judged_change, KeepsTotals}
use Rattle.dali_machine.proofs.Allowed.{none_first, none_after, is_true, not_above, part_new}
use Rattle.dali_machine.proofs.Committing.{refusal_counted}
use Rattle.dali_machine.proofs.Cycling.{set_ready, set_taken, set_total}
use Rattle.dali_machine.proofs.Settling.{total_same}

same_total : (n : ℕ) → pos n ≡ pos n +ℤ pos 0
same_total n = omega (arith, ints)

never : (b : Bool) → pick b (pos 0 -ℤ pos 0) ≡ pos 0
never true = refl
never false = refl

module _ (m : Machine) (kept : IsMachine m) where
  -- the totals after new numbers at a pair of an account
  module _ (account asset : List ℕ) (balance earmark up down : ℕ) (there : has_account m.book.accounts account ≡ true)
      (moved : balance + earmark + down ≡ balance_of m.book account asset + earmark_of m.book account asset + up) where
    put : (q : List ℕ) → pos (total_of (with_pair m.book account asset balance earmark) q) ≡ pos (total_of m.book q) +ℤ pick (same_bytes asset q) (pos up -ℤ pos down)
    put q = by (same_bytes asset q) refl
      where
        own : total_of (with_pair m.book account asset balance earmark) asset + down ≡ total_of m.book asset + up
        own = held_moved m.book.accounts m.book.balances m.book.earmarks account asset balance earmark up down moved kept.distinct there

        by : (b : Bool) → same_bytes asset q ≡ b → pos (total_of (with_pair m.book account asset balance earmark) q) ≡ pos (total_of m.book q) +ℤ pick b (pos up -ℤ pos down)
        by true told = subst (λ r. pos (total_of (with_pair m.book account asset balance earmark) r) ≡ pos (total_of m.book r) +ℤ (pos up -ℤ pos down)) (same_name_is asset q told) (omega (arith, ints, own))
        by false told =
            let same = held_other m.book.accounts m.book.balances m.book.earmarks account asset balance earmark q (same_name_symm q asset ∙ told) in
            omega (arith, ints, same)

  -- a new account has nothing
  part_totals : (account q : List ℕ) → has_account m.book.accounts account ≡ false → total_of (record m.book { accounts = m.book.accounts ++ account ∷ [] }) q ≡ total_of m.book q
  part_totals account q new =
      let more = sum_by_push (λ a. units_of m.book.balances (a, q) + units_of m.book.earmarks (a, q)) m.book.accounts account in
      let free = kept.owned (account, q) new in
      let earmarked = kept.earmarked (account, q) new in
      omega (arith, more, free, earmarked)

  known_account : (account asset : List ℕ) → not (knows_pair m.book account asset) ≡ false → has_account m.book.accounts account ≡ true
  known_account account asset e = first_true (has_account m.book.accounts account) _ (is_true (knows_pair m.book account asset) e)

  -- the totals after an accepted verb
  module _ (t : ℕ) where
    issue_totals : (account asset : List ℕ) (n : ℕ) → refusal m t (verbs.Issue account asset n) ≡ None → (q : List ℕ) →
        pos (total_of (accepted m (verbs.Issue account asset n)).book q) ≡ pos (total_of m.book q) +ℤ pick (same_bytes asset q) (pos n)
    unfolding refusal accepted
    issue_totals account asset n allowed q =
        let there = known_account account asset (none_first (not (knows_pair m.book account asset)) Name ((nat_lt most_total (total_of m.book asset + n), Total) ∷ []) allowed) in
        put account asset (balance_of m.book account asset + n) (earmark_of m.book account asset) n 0 there (omega arith) q
        ∙ ap (λ z. pos (total_of m.book q) +ℤ pick (same_bytes asset q) z) (omega (arith, ints))

    draw_totals : (account asset : List ℕ) (n : ℕ) → refusal m t (verbs.Draw account asset n) ≡ None → (q : List ℕ) →
        pos (total_of (accepted m (verbs.Draw account asset n)).book q) ≡ pos (total_of m.book q) +ℤ pick (same_bytes asset q) (neg_ℤ (pos n))
    unfolding refusal accepted
    draw_totals account asset n allowed q =
        let unknown : Bool = not (knows_pair m.book account asset) in
        let few : Bool = nat_lt (balance_of m.book account asset) n in
        let enough = not_above (balance_of m.book account asset) n (none_first few Short [] (none_after unknown Name ((few, Short) ∷ []) allowed)) in
        put account asset (balance_of m.book account asset - n) (earmark_of m.book account asset) 0 n
        (known_account account asset (none_first unknown Name ((few, Short) ∷ []) allowed)) (omega (arith, enough)) q
        ∙ ap (λ z. pos (total_of m.book q) +ℤ pick (same_bytes asset q) z) (omega (arith, ints))

    earmark_totals : (account asset : List ℕ) (n : ℕ) → refusal m t (verbs.Earmark account asset n) ≡ None → (q : List ℕ) →
        pos (total_of (accepted m (verbs.Earmark account asset n)).book q) ≡ pos (total_of m.book q) +ℤ pos 0
    unfolding refusal accepted
    earmark_totals account asset n allowed q =
        let unknown : Bool = not (knows_pair m.book account asset) in
        let few : Bool = nat_lt (balance_of m.book account asset) n in
        let enough = not_above (balance_of m.book account asset) n (none_first few Short [] (none_after unknown Name ((few, Short) ∷ []) allowed)) in
        put account asset (balance_of m.book account asset - n) (earmark_of m.book account asset + n) 0 0
        (known_account account asset (none_first unknown Name ((few, Short) ∷ []) allowed)) (omega (arith, enough)) q
        ∙ ap (λ z. pos (total_of m.book q) +ℤ z) (never (same_bytes asset q))

    release_totals : (account asset : List ℕ) (n : ℕ) → refusal m t (verbs.Release account asset n) ≡ None → (q : List ℕ) →
        pos (total_of (accepted m (verbs.Release account asset n)).book q) ≡ pos (total_of m.book q) +ℤ pos 0
    unfolding refusal accepted
    release_totals account asset n allowed q =
        let unknown : Bool = not (knows_pair m.book account asset) in
        let few : Bool = nat_lt (earmark_of m.book account asset) n in
        let enough = not_above (earmark_of m.book account asset) n (none_first few Short [] (none_after unknown Name ((few, Short) ∷ []) allowed)) in
        put account asset (balance_of m.book account asset + n) (earmark_of m.book account asset - n) 0 0
        (known_account account asset (none_first unknown Name ((few, Short) ∷ []) allowed)) (omega (arith, enough)) q
        ∙ ap (λ z. pos (total_of m.book q) +ℤ z) (never (same_bytes asset q))

    settle_totals : (id : List ℕ) → refusal m t (verbs.Settle id) ≡ None → (q : List ℕ) → pos (total_of (accepted m (verbs.Settle id)).book q) ≡ pos (total_of m.book q) +ℤ pos 0
    unfolding accepted
    settle_totals id allowed q = by (item_of m.queue.waiting id) refl
      where
        by : (o : Option Instruction) → item_of m.queue.waiting id ≡ o → pos (total_of (settled m id o).book q) ≡ pos (total_of m.book q) +ℤ pos 0
        by None is = same_total (total_of m.book q)
        by (Some i) is = ap pos (total_same m kept t id i is allowed q) ∙ same_total (total_of m.book q)

    accepted_totals : (verb : Verb) → refusal m t verb ≡ None → (q : List ℕ) → pos (total_of (accepted m verb).book q) ≡ pos (total_of m.book q) +ℤ total_change verb q
    unfolding accepted
    accepted_totals (verbs.Part account) allowed q = ap pos (part_totals account q (part_new m t account allowed)) ∙ same_total (total_of m.book q)
    accepted_totals (verbs.Inst code price) allowed q = same_total (total_of m.book q)
    accepted_totals (verbs.Issue account asset n) allowed q = issue_totals account asset n allowed q
    accepted_totals (verbs.Draw account asset n) allowed q = draw_totals account asset n allowed q
    accepted_totals (verbs.Dvp id seller buyer code quantity amount) allowed q = same_total (total_of m.book q)
    accepted_totals (verbs.Fop id from to code quantity) allowed q = same_total (total_of m.book q)
    accepted_totals (verbs.Pay id from to amount) allowed q = same_total (total_of m.book q)
    accepted_totals (verbs.Cancel id) allowed q = same_total (total_of m.book q)
    accepted_totals (verbs.Settle id) allowed q = settle_totals id allowed q
    accepted_totals (verbs.Cutoff kind moment) allowed q = same_total (total_of m.book q)
    accepted_totals (verbs.Cycle budget) allowed q = same_total (total_of m.book q)
    accepted_totals verbs.Queue allowed q = same_total (total_of m.book q)
    accepted_totals verbs.Close allowed q = same_total (total_of m.book q)
    accepted_totals (verbs.Stat account) allowed q = same_total (total_of m.book q)
    accepted_totals (verbs.Ledger account) allowed q = same_total (total_of m.book q)
    accepted_totals (verbs.Earmark account asset n) allowed q = earmark_totals account asset n allowed q
    accepted_totals (verbs.Release account asset n) allowed q = release_totals account asset n allowed q
    accepted_totals (verbs.Link first second) allowed q = same_total (total_of m.book q)
    accepted_totals (verbs.Rank id rank) allowed q = same_total (total_of m.book q)

-- what holds of a state holds with another count and moment
counted_kept : (m : Machine) (t : ℕ) → IsMachine m → IsMachine (at_moment (one_command_more m) t)
counted_kept m t kept = record { matched = kept.matched; owned = kept.owned; earmarked = kept.earmarked; distinct = kept.distinct; limit = kept.limit; prices = kept.prices; known = kept.known }

-- a cycle moves units between accounts, and makes none
cycled_totals : (s : StateRecord) (t : ℕ) (verb : Verb) (ready : ReadyRecord) (c : Cycling) → IsMachine s.machine → (can : CanCommit s ready) → (told : cycle_in ready.outcome ≡ Some c) → (is : ready.judged ≡ judgements.Yes t verb) → (q : List ℕ) →
    pos (total_of (turn (one_command_more s.machine) ready.judged (cycle_in ready.outcome)).next.book q) ≡ pos (total_of s.machine.book q) +ℤ pos 0
cycled_totals s t verb ready c kept can told is q =
    let set = set_ready s t verb ready c can told is in
    ap (λ (m : Machine). pos (total_of m.book q)) (sym (set_taken s t verb ready c can told is))
    ∙ ap pos (set_total (record s { machine = at_moment (one_command_more s.machine) t }) ready.places ready.net (counted_kept s.machine t kept) set q)
    ∙ same_total (total_of s.machine.book q)

-- a judged line that is allowed keeps the totals
pub turn_totals : (s : StateRecord) (ready : ReadyRecord) → IsMachine s.machine → CanCommit s ready → KeepsTotals ready.judged s.machine.book (turn (one_command_more s.machine) ready.judged (cycle_in ready.outcome)).next.book
turn_totals s ready kept can = by_cycle (cycle_in ready.outcome) refl
  where
    plain : (j : Judged) → IsAllowed s.machine j → KeepsTotals j s.machine.book (turn (one_command_more s.machine) j None).next.book
    plain judgements.Form allowed = record { totals = λ q. same_total (total_of s.machine.book q) }
    plain judgements.Back allowed = record { totals = λ q. same_total (total_of s.machine.book q) }
    plain (judgements.No t code) allowed = record { totals = λ q. same_total (total_of s.machine.book q) }
    plain (judgements.Yes t verb) allowed = record {
      totals = λ q. accepted_totals (at_moment (one_command_more s.machine) t) (counted_kept s.machine t kept) t verb (refusal_counted s.machine t t verb ∙ allowed) q;
    }

    by_cycle : (o : Option Cycling) → cycle_in ready.outcome ≡ o → KeepsTotals ready.judged s.machine.book (turn (one_command_more s.machine) ready.judged (cycle_in ready.outcome)).next.book
    by_cycle None told = subst (λ (o : Option Cycling). KeepsTotals ready.judged s.machine.book (turn (one_command_more s.machine) ready.judged o).next.book) (sym told) (plain ready.judged can.allowed)
    by_cycle (Some c) told =
        let book : CanBook s.machine ready c = subst (λ (o : Option Cycling). IfSome o (CanBook s.machine ready)) told can.cycle in
        record {
          totals = λ q. cycled_totals s book.moment (verbs.Cycle c.budget) ready c kept can told book.judged q
              ∙ ap (λ j. pos (total_of s.machine.book q) +ℤ judged_change j q) (sym book.judged);
        }
