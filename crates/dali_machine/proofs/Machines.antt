use Rattle.std.proofs.Common.{◌≡◌, ℕ, ◌≤◌, Bool, true, false, cond, not, ◌||◌, true≢false, List, [], ◌∷◌, ◌++◌, pos, Option, Some, None, get_or, is_some, refl, sym, ap, ◌∙◌, subst, if◌then◌else◌, map}
use Rattle.std.proofs.lemmas.List.Folds.{list_any-append}
use Rattle.std.proofs.lemmas.List.Elements.{All-push, All-filter, All-map}
use Rattle.std.proofs.lemmas.Map.Keys.{IsDistinct-push}
use Rattle.std.specs.Cmp.Lexicographic.{nat_list_eq_equiv}
use Rattle.std.specs.List.{All, IsDistinct}
use Rattle.std.specs.Option.{option_map_or}
use Rattle.dali_account.specs.Book.{BookRecord, cash, has_account, has_asset, price_of, total_of}
use Rattle.dali_base.specs.Limits.{most_total}
use Rattle.dali_base.specs.Readers.{same_bytes}
use Rattle.dali_account.specs.Units.{units_of}
use Rattle.dali_queue.specs.declared.instruction.Instruction.{Instruction}
use Rattle.dali_queue.specs.Groups.{in_group, group_of, with_group, regrouped, linked}
use Rattle.dali_queue.specs.Queue.{Queued, QueueRecord, entered, without, ranked, with_rank}
use Rattle.dali_machine.specs.Machine.{Machine}
use Rattle.dali_machine.specs.Kept.{AreKnown, IsMachine}
use Rattle.dali_machine.proofs.Allowed.{left_false}

-- a code is found in more codes too
some_more : (codes : List (List ℕ × ℕ)) (e : List ℕ × ℕ) (x : List ℕ) → is_some (price_of codes x) ≡ true → is_some (price_of (codes ++ e ∷ []) x) ≡ true
some_more [] e x there = absurd (true≢false (sym there))
some_more (c ∷ cs) e x there = by (same_bytes x c.0) there (some_more cs e x)
  where
    by : (b : Bool) → is_some (cond b (Some c.1) (price_of cs x)) ≡ true → (is_some (price_of cs x) ≡ true → is_some (price_of (cs ++ e ∷ []) x) ≡ true) →
        is_some (cond b (Some c.1) (price_of (cs ++ e ∷ []) x)) ≡ true
    by true h rest = refl
    by false h rest = rest h

asset_more : (codes : List (List ℕ × ℕ)) (e : List ℕ × ℕ) (x : List ℕ) → has_asset codes x ≡ true → has_asset (codes ++ e ∷ []) x ≡ true
asset_more codes e x there = by (same_bytes x cash) there
  where
    by : (b : Bool) → (b || is_some (price_of codes x)) ≡ true → (b || is_some (price_of (codes ++ e ∷ []) x)) ≡ true
    by true h = refl
    by false h = some_more codes e x h

account_more : (accounts : List (List ℕ)) (a x : List ℕ) → has_account accounts x ≡ true → has_account (accounts ++ a ∷ []) x ≡ true
account_more accounts a x there = list_any-append (same_bytes x) accounts (a ∷ []) ∙ ap (λ b. b || has_account (a ∷ []) x) there

fewer_unknown : (accounts : List (List ℕ)) (a x : List ℕ) → has_account (accounts ++ a ∷ []) x ≡ false → has_account accounts x ≡ false
fewer_unknown accounts a x absent = left_false (has_account accounts x) (has_account (a ∷ []) x) (sym (list_any-append (same_bytes x) accounts (a ∷ [])) ∙ absent)

module _ (m : Machine) (kept : IsMachine m) where
  pub machine_account : (account : List ℕ) (book : BookRecord) → book ≡ record m.book { accounts = m.book.accounts ++ account ∷ [] } → has_account m.book.accounts account ≡ false →
      ((asset : List ℕ) → total_of book asset ≡ total_of m.book asset) → IsMachine (record m { book = book })
  machine_account account book is new totals = record {
    matched = λ pair. kept.matched pair ∙ ap (λ (b : BookRecord). pos (units_of b.balances pair)) (sym is);
    owned = λ pair absent. ap (λ (b : BookRecord). units_of b.balances pair) is
        ∙ kept.owned pair (fewer_unknown m.book.accounts account pair.0 (ap (λ (b : BookRecord). has_account b.accounts pair.0) (sym is) ∙ absent));
    earmarked = λ pair absent. ap (λ (b : BookRecord). units_of b.earmarks pair) is
        ∙ kept.earmarked pair (fewer_unknown m.book.accounts account pair.0 (ap (λ (b : BookRecord). has_account b.accounts pair.0) (sym is) ∙ absent));
    distinct = subst (λ (b : BookRecord). IsDistinct same_bytes b.accounts) (sym is) (IsDistinct-push nat_list_eq_equiv m.book.accounts account kept.distinct new);
    limit = λ asset. subst (λ n. n ≤ most_total) (sym (totals asset)) (kept.limit asset);
    prices = subst (λ (b : BookRecord). All (λ c. 1 ≤ c.1) b.codes) (sym is) kept.prices;
    known = subst (λ (b : BookRecord). All (λ w. AreKnown b w.item) m.queue.waiting) (sym is) (λ k d h.
        let old = kept.known k d h in
        record { giver = account_more m.book.accounts account (get_or m.queue.waiting k d).item.giver old.giver; taker = account_more m.book.accounts account (get_or m.queue.waiting k d).item.taker old.taker; code = old.code });
  }

  pub machine_asset : (code : List ℕ) (price : ℕ) (book : BookRecord) → book ≡ record m.book { codes = m.book.codes ++ (code, price) ∷ [] } → 1 ≤ price →
      ((asset : List ℕ) → total_of book asset ≡ total_of m.book asset) → IsMachine (record m { book = book })
  machine_asset code price book is some totals = record {
    matched = λ pair. kept.matched pair ∙ ap (λ (b : BookRecord). pos (units_of b.balances pair)) (sym is);
    owned = λ pair absent. ap (λ (b : BookRecord). units_of b.balances pair) is ∙ kept.owned pair (ap (λ (b : BookRecord). has_account b.accounts pair.0) (sym is) ∙ absent);
    earmarked = λ pair absent. ap (λ (b : BookRecord). units_of b.earmarks pair) is ∙ kept.earmarked pair (ap (λ (b : BookRecord). has_account b.accounts pair.0) (sym is) ∙ absent);
    distinct = subst (λ (b : BookRecord). IsDistinct same_bytes b.accounts) (sym is) kept.distinct;
    limit = λ asset. subst (λ n. n ≤ most_total) (sym (totals asset)) (kept.limit asset);
    prices = subst (λ (b : BookRecord). All (λ c. 1 ≤ c.1) b.codes) (sym is) (All-push (λ c. 1 ≤ c.1) m.book.codes (code, price) kept.prices some);
    known = subst (λ (b : BookRecord). All (λ w. AreKnown b w.item) m.queue.waiting) (sym is) (λ k d h.
        let old = kept.known k d h in
        record { giver = old.giver; taker = old.taker; code = asset_more m.book.codes (code, price) (get_or m.queue.waiting k d).item.code old.code });
  }

  -- another queue that names only what the book has
  pub machine_queue : (queue : QueueRecord) → All (λ w. AreKnown m.book w.item) queue.waiting → IsMachine (record m { queue = queue })
  machine_queue queue known = record { matched = kept.matched; owned = kept.owned; earmarked = kept.earmarked; distinct = kept.distinct; limit = kept.limit; prices = kept.prices; known = known }

  pub known_without : (id : List ℕ) → All (λ (w : Queued). AreKnown m.book w.item) (without m.queue.waiting id)
  known_without id = All-filter (λ w. not (same_bytes id w.item.id)) (λ (w : Queued). AreKnown m.book w.item) m.queue.waiting kept.known

  pub known_entered : (i : Instruction) → AreKnown m.book i → All (λ (w : Queued). AreKnown m.book w.item) (entered m.queue i).waiting
  known_entered i there = All-push (λ (w : Queued). AreKnown m.book w.item) m.queue.waiting (record { item = i; group = i.id }) kept.known there

  known_mapped : (f : Queued → Queued) → ((w : Queued) → AreKnown m.book w.item → AreKnown m.book (f w).item) → All (λ (w : Queued). AreKnown m.book w.item) (map f m.queue.waiting)
  known_mapped f same = All-map (λ (w : Queued). AreKnown m.book w.item) f m.queue.waiting (λ k d h. same (get_or m.queue.waiting k d) (kept.known k d h))

  pub known_ranked : (id : List ℕ) (rank : ℕ) → All (λ (w : Queued). AreKnown m.book w.item) (ranked m.queue.waiting id rank)
  known_ranked id rank = known_mapped (λ w. if same_bytes id w.item.id then with_rank w rank else w) (λ w there. by w there (same_bytes id w.item.id))
    where
      by : (w : Queued) → AreKnown m.book w.item → (b : Bool) → AreKnown m.book (cond b (with_rank w rank) w).item
      by w there true = record { giver = there.giver; taker = there.taker; code = there.code }
      by w there false = there

  known_regrouped : (from to : List ℕ) → All (λ (w : Queued). AreKnown m.book w.item) (regrouped m.queue.waiting from to)
  known_regrouped from to = known_mapped (λ w. if in_group from w then with_group w to else w) (λ w there. by w there (in_group from w))
    where
      by : (w : Queued) → AreKnown m.book w.item → (b : Bool) → AreKnown m.book (cond b (with_group w to) w).item
      by w there true = there
      by w there false = there

  pub known_linked : (first second : List ℕ) → All (λ (w : Queued). AreKnown m.book w.item) (linked m.queue.waiting first second)
  known_linked first second = by (group_of m.queue.waiting first) (group_of m.queue.waiting second)
    where
      by : (a b : Option (List ℕ)) → All (λ (w : Queued). AreKnown m.book w.item) (option_map_or (λ to. option_map_or (λ from. regrouped m.queue.waiting from to) b m.queue.waiting) a m.queue.waiting)
      by None b = kept.known
      by (Some to) None = kept.known
      by (Some to) (Some from) = known_regrouped from to
