use Rattle.std.proofs.Common.{◌≡◌, inl, inr, ℕ, ◌+◌, ◌<◌, ◌≤◌, Bool, true, false, cond, List, [], ◌∷◌, ◌++◌, length, take, reverse, zero, suc, Some, None, Option, refl, sym, ap, ◌∙◌, subst, add-one, append_assoc, append-nil, arith}
use Rattle.std.specs.Prelude.{slice_get}
use Rattle.std.specs.List.{filter}
use Rattle.std.specs.Option.{option_map, option_or, option_map_or}
use Rattle.std.proofs.lemmas.List.{take-map, take_all, take-append-le, map-append, length-append, reverse-append, length-take}
use Rattle.std.proofs.lemmas.Option.{slice_get-map, slice_get_within}
use Rattle.dali_account.specs.declared.net.Move.{Move}
use Rattle.dali_base.specs.Readers.{same_bytes}
use Rattle.dali_account.proofs.SumLemmas.{same_name_is}
use Rattle.dali_ledger.specs.declared.posting.Posting.{Posting}
use Rattle.dali_ledger.specs.Postings.{next_posting, with_move}
use Rattle.dali_ledger.specs.LedgerKept.{accounts_of}
use Rattle.std.specs.Map.{lookup}
use Rattle.dali_ledger.specs.declared.places.Places.{Places}
use Rattle.dali_ledger.specs.Places.{PlacesOf, last_place}
use Rattle.dali_ledger.proofs.SumLemmas.{get_push}

-- one more account stands last
pub last_place_push : (xs : List (List ℕ)) (x account : List ℕ) → last_place (xs ++ x ∷ []) account ≡ cond (same_bytes x account) (Some (length xs)) (last_place xs account)
last_place_push [] x account = refl
last_place_push (y ∷ ys) x account =
    ap (λ o. option_or (option_map (λ k. k + 1) o) (cond (same_bytes y account) (Some 0) None)) (last_place_push ys x account) ∙ by (same_bytes x account)
  where
    by : (b : Bool) → option_or (option_map (λ k. k + 1) (cond b (Some (length ys)) (last_place ys account))) (cond (same_bytes y account) (Some 0) None)
        ≡ cond b (Some (length (y ∷ ys))) (option_or (option_map (λ k. k + 1) (last_place ys account)) (cond (same_bytes y account) (Some 0) None))
    by true = ap Some (add-one (length ys))
    by false = refl

get_front : {X : Type 0} (xs : List X) (x : X) (k : ℕ) (y : X) → slice_get xs k ≡ Some y → slice_get (xs ++ x ∷ []) k ≡ Some y
get_front [] x k y e = absurd (cc)
get_front (z ∷ zs) x zero y e = e
get_front (z ∷ zs) x (suc k) y e = get_front zs x k y e

get_end : {X : Type 0} (xs : List X) (x : X) → slice_get (xs ++ x ∷ []) (length xs) ≡ Some x
get_end [] x = refl
get_end (z ∷ zs) x = get_end zs x

-- one more posting keeps the places
module _ (p q : Places) (accounts : List (List ℕ)) (account : List ℕ) (last : Option ℕ) (kept : PlacesOf p accounts)
    (last_is : last ≡ lookup (same_bytes account) p.lasts.entries)
    (pushed : q.befores.items ≡ p.befores.items ++ last ∷ [])
    (updated : (other : List ℕ) → lookup (same_bytes other) q.lasts.entries ≡ cond (same_bytes account other) (Some (length p.befores.items)) (lookup (same_bytes other) p.lasts.entries)) where
  longer : length q.befores.items ≡ length (accounts ++ account ∷ [])
  longer = ap length pushed ∙ length-append p.befores.items (last ∷ []) ∙ ap (λ n. n + 1) kept.len ∙ sym (length-append accounts (account ∷ []))

  before_at : (k : ℕ) (other : List ℕ) → slice_get (accounts ++ account ∷ []) k ≡ Some other → slice_get q.befores.items k ≡ Some (last_place (take k (accounts ++ account ∷ [])) other)
  before_at k other e = ap (λ (bs : List (Option ℕ)). slice_get bs k) pushed ∙ elim (get_push accounts account k other e) [
    | inl old ↦
        let within : k < length accounts = slice_get_within accounts k other old in
        get_front p.befores.items last k (last_place (take k accounts) other) (kept.befores k other old)
        ∙ ap (λ (names : List (List ℕ)). Some (last_place names other)) (sym (take-append-le k accounts (account ∷ []) (omega (arith, within))))
    | inr new ↦
        let all : take k (accounts ++ account ∷ []) ≡ accounts = take-append-le k accounts (account ∷ []) (omega (arith, new.0)) ∙ take_all k accounts (omega (arith, new.0)) in
        ap (λ n. slice_get (p.befores.items ++ last ∷ []) n) (new.0 ∙ sym kept.len) ∙ get_end p.befores.items last
        ∙ ap Some (last_is ∙ kept.lasts account ∙ ap (last_place accounts) (sym new.1))
        ∙ ap (λ (names : List (List ℕ)). Some (last_place names other)) (sym all)
  ]

  last_at : (other : List ℕ) → lookup (same_bytes other) q.lasts.entries ≡ last_place (accounts ++ account ∷ []) other
  last_at other = updated other
      ∙ ap (λ n. cond (same_bytes account other) (Some n) (lookup (same_bytes other) p.lasts.entries)) kept.len
      ∙ ap (cond (same_bytes account other) (Some (length accounts))) (kept.lasts other)
      ∙ sym (last_place_push accounts account other)

  pub places_more : PlacesOf q (accounts ++ account ∷ [])
  places_more = record { len = longer; befores = before_at; lasts = last_at }

pub accounts_push : (ps : List Posting) (command : ℕ) (m : Move) → accounts_of (with_move ps command m) ≡ accounts_of ps ++ m.account ∷ []
accounts_push ps command m = map-append (λ (p : Posting). p.account) ps (next_posting ps command m ∷ [])

-- the postings of an account
abbrev pub own_rows : List ℕ → List Posting → List Posting
own_rows account ps = filter (λ p. same_bytes p.account account) ps

-- without a last place there are none
pub none_own : (ps : List Posting) (account : List ℕ) → last_place (accounts_of ps) account ≡ None → own_rows account ps ≡ []
none_own [] account none = refl
none_own (q ∷ ps) account none = by (last_place (accounts_of ps) account) (same_bytes q.account account) none (none_own ps account)
  where
    by : (o : Option ℕ) (b : Bool) → option_or (option_map (λ k. k + 1) o) (cond b (Some 0) None) ≡ None → (o ≡ None → own_rows account ps ≡ []) → cond b (q ∷ own_rows account ps) (own_rows account ps) ≡ []
    by (Some j) b e rest = absurd (cc)
    by None true e rest = absurd (cc)
    by None false e rest = rest refl

-- at the last place stands the last of them
pub record Last (ps : List Posting) (account : List ℕ) (k : ℕ) : Type 0 where
  pub posting : Posting
  pub there : slice_get ps k ≡ Some posting
  pub own : posting.account ≡ account
  pub rows : own_rows account ps ≡ own_rows account (take k ps) ++ posting ∷ []

last_behind : (q : Posting) (ps : List Posting) (account : List ℕ) (j k : ℕ) → j + 1 ≡ k → Last ps account j → Last (q ∷ ps) account k
last_behind q ps account j k is last = subst (Last (q ∷ ps) account) (sym (add-one j) ∙ is) (record {
  posting = last.posting;
  there = last.there;
  own = last.own;
  rows = by (same_bytes q.account account);
})
  where
    by : (b : Bool) → cond b (q ∷ own_rows account ps) (own_rows account ps) ≡ cond b (q ∷ own_rows account (take j ps)) (own_rows account (take j ps)) ++ last.posting ∷ []
    by true = ap (λ rs. q ∷ rs) last.rows
    by false = last.rows

some_is : (j k : ℕ) → Some j ≡ Some k → j ≡ k
some_is j k e = cc

pub last_own : (ps : List Posting) (account : List ℕ) (k : ℕ) → last_place (accounts_of ps) account ≡ Some k → Last ps account k
last_own [] account k e = absurd (cc)
last_own (q ∷ ps) account k e = by (last_place (accounts_of ps) account) (same_bytes q.account account) refl refl e (λ j at. last_own ps account j at)
  where
    by : (o : Option ℕ) (b : Bool) → last_place (accounts_of ps) account ≡ o → same_bytes q.account account ≡ b → option_or (option_map (λ n. n + 1) o) (cond b (Some 0) None) ≡ Some k →
        ((j : ℕ) → last_place (accounts_of ps) account ≡ Some j → Last ps account j) → Last (q ∷ ps) account k
    by (Some j) b at own found rest = last_behind q ps account j k (some_is (j + 1) k found) (rest j at)
    by None true at own found rest = subst (Last (q ∷ ps) account) (some_is 0 k found) (record {
      posting = q;
      there = refl;
      own = same_name_is q.account account own;
      rows = ap (λ b. cond b (q ∷ own_rows account ps) (own_rows account ps)) own ∙ ap (λ rs. q ∷ rs) (none_own ps account at);
    })
    by None false at own found rest = absurd (cc)

pub take_within : {X : Type 0} (k n : ℕ) (xs : List X) → k < n → take k (take n xs) ≡ take k xs
take_within zero n xs lt = refl
take_within (suc k) zero xs lt = absurd (omega arith)
take_within (suc k) (suc n) [] lt = refl
take_within (suc k) (suc n) (x ∷ xs) lt = ap (λ ys. x ∷ ys) (take_within k n xs (omega arith))

pub got_within : {X : Type 0} (n : ℕ) (xs : List X) (k : ℕ) (x : X) → slice_get (take n xs) k ≡ Some x → slice_get xs k ≡ Some x
got_within zero xs k x e = absurd (cc)
got_within (suc n) [] k x e = e
got_within (suc n) (y ∷ ys) zero x e = e
got_within (suc n) (y ∷ ys) (suc k) x e = got_within n ys k x e

-- a walk from the last to the first, which has these rows so far
pub record Walk (account : List ℕ) (ps : List Posting) (next : Option ℕ) (rows : List Posting) : Type 0 where
  pub reach : ℕ
  pub next_is : next ≡ last_place (accounts_of (take reach ps)) account
  pub rows_are : own_rows account (take reach ps) ++ reverse rows ≡ own_rows account ps

pub walk_start : (account : List ℕ) (ps : List Posting) (next : Option ℕ) → next ≡ last_place (accounts_of ps) account → Walk account ps next []
walk_start account ps next is =
    let all : take (length ps) ps ≡ ps = take_all (length ps) ps (omega arith) in
    record {
      reach = length ps;
      next_is = is ∙ ap (λ qs. last_place (accounts_of qs) account) (sym all);
      rows_are = append-nil (own_rows account (take (length ps) ps)) ∙ ap (own_rows account) all;
    }

module _ (account : List ℕ) (ps : List Posting) (k : ℕ) (rows : List Posting) (walk : Walk account ps (Some k) rows) where
  last : Last (take walk.reach ps) account k
  last = last_own (take walk.reach ps) account k (sym walk.next_is)

  before : k < walk.reach
  before = let inside = slice_get_within (take walk.reach ps) k last.posting last.there in omega (arith, inside, length-take walk.reach ps)

  there : slice_get ps k ≡ Some last.posting
  there = got_within walk.reach ps k last.posting last.there

  pub walk_within : k < length ps
  walk_within = slice_get_within ps k last.posting there

  pub walk_account : slice_get (accounts_of ps) k ≡ Some account
  walk_account = slice_get-map (λ (p : Posting). p.account) ps k ∙ ap (option_map (λ (p : Posting). p.account)) there ∙ ap Some last.own

  pub walk_more : (x : Posting) (next : Option ℕ) → slice_get ps k ≡ Some x → next ≡ last_place (take k (accounts_of ps)) account → Walk account ps next (rows ++ x ∷ [])
  walk_more x next at is = record {
    reach = k;
    next_is = is ∙ ap (λ names. last_place names account) (take-map (λ (p : Posting). p.account) k ps);
    rows_are = joined;
  }
    where
      same : last.posting ≡ x
      same = let both = sym there ∙ at in cc

      joined : own_rows account (take k ps) ++ reverse (rows ++ x ∷ []) ≡ own_rows account ps
      joined = ap (λ rs. own_rows account (take k ps) ++ rs) (reverse-append rows (x ∷ []))
          ∙ sym (append_assoc (own_rows account (take k ps)) (x ∷ []) (reverse rows))
          ∙ ap (λ (p : Posting). (own_rows account (take k ps) ++ p ∷ []) ++ reverse rows) (sym same)
          ∙ ap (λ qs. (own_rows account qs ++ last.posting ∷ []) ++ reverse rows) (sym (take_within k walk.reach ps before))
          ∙ ap (λ rs. rs ++ reverse rows) (sym last.rows)
          ∙ walk.rows_are

pub walk_end : (account : List ℕ) (ps rows : List Posting) → Walk account ps None rows → reverse rows ≡ own_rows account ps
walk_end account ps rows walk = ap (λ rs. rs ++ reverse rows) (sym (none_own (take walk.reach ps) account (sym walk.next_is))) ∙ walk.rows_are

place_within : (xs : List (List ℕ)) (account : List ℕ) → option_map_or (λ k. k + 1) (last_place xs account) 0 ≤ length xs
place_within [] account = omega arith
place_within (x ∷ xs) account = by (last_place xs account) (same_bytes x account) (place_within xs account)
  where
    by : (o : Option ℕ) (b : Bool) → option_map_or (λ k. k + 1) o 0 ≤ length xs → option_map_or (λ k. k + 1) (option_or (option_map (λ k. k + 1) o) (cond b (Some 0) None)) 0 ≤ length (x ∷ xs)
    by (Some j) b le = omega arith
    by None true le = omega arith
    by None false le = omega arith

-- each step leads to an earlier place
pub place_falls : (o : Option ℕ) (k : ℕ) (xs : List (List ℕ)) (account : List ℕ) → o ≡ last_place (take k xs) account → option_map_or (λ n. n + 1) o 0 < k + 1
place_falls o k xs account is =
    let within = place_within (take k xs) account in
    let same : option_map_or (λ n. n + 1) o 0 ≡ option_map_or (λ n. n + 1) (last_place (take k xs) account) 0 = ap (λ p. option_map_or (λ n. n + 1) p 0) is in
    omega (arith, within, same, length-take k xs)
