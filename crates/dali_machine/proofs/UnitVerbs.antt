use Rattle.std.proofs.Common.{◌≡◌, ◌≢◌, ℕ, ◌+◌, ◌-◌, ◌≤◌, pos, neg_ℤ, Bool, true, false, not, true≢false, List, [], ◌∷◌, None, nat_lt, refl, sym, ap, ◌∙◌, subst, arith}
use Rattle.std.proofs.lemmas.Int.{ints}
use Rattle.dali_account.specs.declared.net.Move.{Move}
use Rattle.dali_account.specs.Book.{BookRecord, has_account, has_asset, knows_pair, balance_of, earmark_of, total_of, issued, drawn, after_earmark, after_release}
use Rattle.dali_base.specs.Limits.{most_total}
use Rattle.dali_base.specs.Readers.{same_bytes}
use Rattle.dali_account.proofs.SumLemmas.{same_name_is, same_name_refl, first_true}
use Rattle.dali_line.specs.declared.command.Verb.{Verb}
use Rattle.dali_line.specs.declared.command.Verb.TheVariants as verbs
use Rattle.dali_ledger.specs.declared.posting.Posting.{Posting}
use Rattle.dali_ledger.specs.Postings.{posted}
use Rattle.dali_machine.specs.Machine.{Machine}
use Rattle.dali_machine.specs.Kept.{IsMachine}
use Rattle.dali_machine.specs.declared.outcome.Code.TheVariants.{Name, Total, Short}
use Rattle.dali_machine.specs.Refusals.{refusal}
use Rattle.dali_machine.specs.Effects.{accepted, booked, net_for, one_move}
use Rattle.dali_machine.proofs.Allowed.{none_first, none_after, is_true, not_above}
use Rattle.dali_machine.proofs.Booking.{IsBooked, booked_one}

-- the state after a booking of this book and net is that of the verb
pub done_as : (m : Machine) (verb : Verb) (book target : BookRecord) (net move : List Move) (postings : List Posting) →
    accepted m verb ≡ booked m target move → book ≡ target → net ≡ move → postings ≡ posted m.postings m.commands net →
    record m { book = book; postings = postings } ≡ accepted m verb
done_as m verb book target net move postings effect is same posts =
    ap (λ (b : BookRecord). record m { book = b; postings = postings }) is
    ∙ ap (λ (ps : List Posting). record m { book = target; postings = ps }) (posts ∙ ap (posted m.postings m.commands) same)
    ∙ sym effect

module _ (m : Machine) (t : ℕ) (account asset : List ℕ) (n : ℕ) where
  pub issue_effect : accepted m (verbs.Issue account asset n) ≡ booked m (issued m.book account asset n) (one_move account asset (pos n))
  unfolding accepted
  issue_effect = refl

  pub draw_effect : accepted m (verbs.Draw account asset n) ≡ booked m (drawn m.book account asset n) (one_move account asset (neg_ℤ (pos n)))
  unfolding accepted
  draw_effect = refl

  pub earmark_effect : accepted m (verbs.Earmark account asset n) ≡ booked m (after_earmark m.book account asset n) (one_move account asset (neg_ℤ (pos n)))
  unfolding accepted
  earmark_effect = refl

  pub release_effect : accepted m (verbs.Release account asset n) ≡ booked m (after_release m.book account asset n) (one_move account asset (pos n))
  unfolding accepted
  release_effect = refl

  pub issue_net : net_for m (verbs.Issue account asset n) ≡ one_move account asset (pos n)
  unfolding net_for
  issue_net = refl

  pub draw_net : net_for m (verbs.Draw account asset n) ≡ one_move account asset (neg_ℤ (pos n))
  unfolding net_for
  draw_net = refl

  pub earmark_net : net_for m (verbs.Earmark account asset n) ≡ one_move account asset (neg_ℤ (pos n))
  unfolding net_for
  earmark_net = refl

  pub release_net : net_for m (verbs.Release account asset n) ≡ one_move account asset (pos n)
  unfolding net_for
  release_net = refl

  account_known : knows_pair m.book account asset ≡ true → has_account m.book.accounts account ≡ true
  account_known known = first_true (has_account m.book.accounts account) (has_asset m.book.codes asset) known

  -- an asset that the test tells apart is another one
  other_asset : (q : List ℕ) → same_bytes q asset ≡ false → q ≢ asset
  other_asset q told is = true≢false (sym (ap (λ r. same_bytes r asset) is ∙ same_name_refl asset) ∙ told)

  pub issue_booked : (book : BookRecord) → IsMachine m → refusal m t (verbs.Issue account asset n) ≡ None → book ≡ issued m.book account asset n →
      total_of book asset ≡ total_of m.book asset + n → ((q : List ℕ) → q ≢ asset → total_of book q ≡ total_of m.book q) → IsBooked m book (one_move account asset (pos n))
  unfolding refusal
  issue_booked book kept allowed is own others =
      let unknown : Bool = not (knows_pair m.book account asset) in
      let large : Bool = nat_lt most_total (total_of m.book asset + n) in
      let most = not_above most_total (total_of m.book asset + n) (none_first large Total [] (none_after unknown Name ((large, Total) ∷ []) allowed)) in
      booked_one m account asset (balance_of m.book account asset + n) (earmark_of m.book account asset) (pos n)
      (account_known (is_true (knows_pair m.book account asset) (none_first unknown Name ((large, Total) ∷ []) allowed))) (omega (arith, ints)) book is
      (λ q. by q most (same_bytes q asset) refl)
    where
      by : (q : List ℕ) → total_of m.book asset + n ≤ most_total → (b : Bool) → same_bytes q asset ≡ b → total_of book q ≤ most_total
      by q most true told = subst (λ r. total_of book r ≤ most_total) (sym (same_name_is q asset told)) (subst (λ k. k ≤ most_total) (sym own) most)
      by q most false told = subst (λ k. k ≤ most_total) (sym (others q (other_asset q told))) (kept.limit q)

  pub draw_booked : (book : BookRecord) → IsMachine m → refusal m t (verbs.Draw account asset n) ≡ None → book ≡ drawn m.book account asset n →
      total_of book asset + n ≡ total_of m.book asset → ((q : List ℕ) → q ≢ asset → total_of book q ≡ total_of m.book q) → IsBooked m book (one_move account asset (neg_ℤ (pos n)))
  unfolding refusal
  draw_booked book kept allowed is own others =
      let unknown : Bool = not (knows_pair m.book account asset) in
      let few : Bool = nat_lt (balance_of m.book account asset) n in
      let enough = not_above (balance_of m.book account asset) n (none_first few Short [] (none_after unknown Name ((few, Short) ∷ []) allowed)) in
      booked_one m account asset (balance_of m.book account asset - n) (earmark_of m.book account asset) (neg_ℤ (pos n))
      (account_known (is_true (knows_pair m.book account asset) (none_first unknown Name ((few, Short) ∷ []) allowed))) (omega (arith, ints, enough)) book is
      (λ q. by q (same_bytes q asset) refl)
    where
      by : (q : List ℕ) → (b : Bool) → same_bytes q asset ≡ b → total_of book q ≤ most_total
      by q true told =
          let before = kept.limit asset in
          subst (λ r. total_of book r ≤ most_total) (sym (same_name_is q asset told)) (omega (arith, own, before))
      by q false told = subst (λ k. k ≤ most_total) (sym (others q (other_asset q told))) (kept.limit q)

  pub earmark_booked : (book : BookRecord) → IsMachine m → refusal m t (verbs.Earmark account asset n) ≡ None → book ≡ after_earmark m.book account asset n →
      ((q : List ℕ) → total_of book q ≡ total_of m.book q) → IsBooked m book (one_move account asset (neg_ℤ (pos n)))
  unfolding refusal
  earmark_booked book kept allowed is totals =
      let unknown : Bool = not (knows_pair m.book account asset) in
      let few : Bool = nat_lt (balance_of m.book account asset) n in
      let enough = not_above (balance_of m.book account asset) n (none_first few Short [] (none_after unknown Name ((few, Short) ∷ []) allowed)) in
      booked_one m account asset (balance_of m.book account asset - n) (earmark_of m.book account asset + n) (neg_ℤ (pos n))
      (account_known (is_true (knows_pair m.book account asset) (none_first unknown Name ((few, Short) ∷ []) allowed))) (omega (arith, ints, enough)) book is
      (λ q. subst (λ k. k ≤ most_total) (sym (totals q)) (kept.limit q))

  pub release_booked : (book : BookRecord) → IsMachine m → refusal m t (verbs.Release account asset n) ≡ None → book ≡ after_release m.book account asset n →
      ((q : List ℕ) → total_of book q ≡ total_of m.book q) → IsBooked m book (one_move account asset (pos n))
  unfolding refusal
  release_booked book kept allowed is totals =
      let unknown : Bool = not (knows_pair m.book account asset) in
      let few : Bool = nat_lt (earmark_of m.book account asset) n in
      booked_one m account asset (balance_of m.book account asset + n) (earmark_of m.book account asset - n) (pos n)
      (account_known (is_true (knows_pair m.book account asset) (none_first unknown Name ((few, Short) ∷ []) allowed))) (omega (arith, ints)) book is
      (λ q. subst (λ k. k ≤ most_total) (sym (totals q)) (kept.limit q))
