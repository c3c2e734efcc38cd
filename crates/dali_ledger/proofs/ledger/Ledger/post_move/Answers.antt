use Rattle.std.proofs.Common.{◌≡◌, ℕ, ◌+◌, ◌+ℤ◌, ◌∙◌, ◌++◌, ◌∷◌, [], length, pos, Some, sym, ap, subst, rules, to_z, of_z}
use Rattle.std.specs.Int.{w64}
use Rattle.std.specs.Prelude.{unsigned_abs}
use Rattle.std.specs.Result.{OnOk}
use Rattle.indexmap.specs.IndexMap.{Updates}
use Rattle.dali_account.specs.Net.{pair_of}
use Rattle.dali_account.proofs.UnitsLemmas.{same_pair}
use Rattle.dali_ledger.specs.declared.posting.Posting.{Posting}
use Rattle.dali_ledger.specs.Ledger.{LedgerState}
use Rattle.dali_ledger.specs.Postings.{IsLedger, IsSum, delta_sum, with_move}
use Rattle.dali_ledger.specs.LedgerKept.{accounts_of}
use Rattle.dali_ledger.specs.Places.{PlacesOf}
use Rattle.dali_ledger.proofs.SumLemmas.{size_is}
use Rattle.dali_ledger.proofs.KeptLemmas.{ledger_kept, beside_kept}
use Rattle.dali_ledger.proofs.PlaceLemmas.{accounts_push}
use Rattle.dali_ledger.proofs.ledger.Ledger.post_move.Goals as goal

pub invariant_of-self : goal.invariant_of-self
invariant_of-self c =
    let fits : IsSum (delta_sum c.self.inside.postings.items (pair_of c.args.item.now) +ℤ c.args.item.now.delta) =
    subst (λ (s : LedgerState). IsSum (delta_sum s.postings (pair_of c.args.item.now) +ℤ c.args.item.now.delta)) (sym c.self.view_is) c.requires.sum in
    let before : pos c.delta_sum.result ≡ delta_sum c.self.inside.postings.items (pair_of c.args.item.now) =
    c.delta_sum.ensures.sum ∙ ap (λ (s : LedgerState). delta_sum s.postings (pair_of c.args.item.now)) (sym c.self.view_is) in
    let after : pos c.sum_after-after.result ≡ delta_sum c.self.inside.postings.items (pair_of c.args.item.now) +ℤ c.args.item.now.delta =
    ap pos c.sum_after-after.ensures ∙ ap (λ z. pos (unsigned_abs (z +ℤ c.args.item.now.delta))) before ∙ size_is (delta_sum c.self.inside.postings.items (pair_of c.args.item.now) +ℤ c.args.item.now.delta) fits in
    let back : to_z w64 (of_z w64 c.args.item.now.delta) ≡ c.args.item.now.delta = search rules in
    let count : c.len.result ≡ length c.self.inside.postings.items = search rules in
    let posting : ℕ → ℕ → Posting = λ n after. record { number = n; command = c.args.command; account = c.args.item.now.account; asset = c.args.item.now.asset; delta = c.args.item.now.delta; after = after } in
    let updates : Updates same_pair c.self.inside.sums c.insert.new.self (pair_of c.args.item.now) (Some c.sum_after-after.result) =
    subst (λ r. OnOk r (Updates same_pair c.self.inside.sums c.insert.new.self (pair_of c.args.item.now) (Some c.sum_after-after.result))) c.unwrap.ensures c.insert.ensures.updates in
    let items : c.push_reserved.new.self.items ≡ with_move c.self.inside.postings.items c.args.command c.args.item.now =
    c.push_reserved.ensures.items ∙ ap (λ d. c.self.inside.postings.items ++ record { number = c.len.result + 1; command = c.args.command; account = c.args.item.now.account; asset = c.args.item.now.asset; delta = d; after = c.sum_after-after.result } ∷ []) back ∙ ap (λ n. c.self.inside.postings.items ++ posting (n + 1) c.sum_after-after.result ∷ []) count
    ∙ ap (λ n. c.self.inside.postings.items ++ posting (length c.self.inside.postings.items + 1) n ∷ [])
    (c.sum_after-after.ensures ∙ ap (λ z. unsigned_abs (z +ℤ c.args.item.now.delta)) before) in
    record {
      ledger = subst IsLedger (sym items) (ledger_kept c.self.inside.postings.items c.args.command c.args.item.now c.self.invariant.ledger fits);
      places = subst (PlacesOf c.add.new.self) (sym (ap accounts_of items ∙ accounts_push c.self.inside.postings.items c.args.command c.args.item.now))
          (c.add.ensures.of (accounts_of c.self.inside.postings.items) c.self.invariant.places);
      sums = λ pair. beside_kept c.self.inside.postings.items c.args.command c.args.item.now c.self.invariant.ledger fits c.self.inside.sums.entries c.insert.new.self.entries c.sum_after-after.result after
          c.self.invariant.sums updates.0 pair ∙ ap (λ ps. delta_sum ps pair) (sym items);
    }
