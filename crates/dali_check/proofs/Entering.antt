use Rattle.std.proofs.Common.{◌≡◌, inl, inr, ℕ, zero, suc, ◌+◌, ◌<◌, ◌≤◌, Bool, true, false, ◌||◌, List, [], ◌∷◌, ◌++◌, length, take, get_or, set, eqb, if◌then◌else◌, refl, ap, sym, ◌∙◌, arith}
use Rattle.std.specs.List.{All, Contains}
use Rattle.std.proofs.lemmas.Bool.{cases_lt, false_from_ne_true}
use Rattle.std.proofs.lemmas.Bool.Decides.{eqb_tells}
use Rattle.std.proofs.lemmas.List.{take_more, get_or-set_same, get_or-set_other, get_or_past, get_or-take, length-take-le, set-set}
use Rattle.std.proofs.lemmas.List.Folds.{list_any-append}
use Rattle.std.proofs.lemmas.List.Elements.{All-from_get_or}
use Rattle.std.proofs.lemmas.Grind.{get_or_default_zero}
use Rattle.std.proofs.lemmas.List.FromFn.{get_or-map-range_with_len, length-map-range_with_len}
use Rattle.dali_problem.specs.declared.mark.Mark.{Mark}
use Rattle.dali_problem.specs.declared.mark.Mark.TheVariants.{Stranger, Undecided, Left}
use Rattle.dali_problem.specs.Partial.{mark, is_undecided, is_chosen}
use Rattle.dali_problem.specs.Kept.{AllUndecided}
use Rattle.dali_problem.specs.Feasible.{has}
use Rattle.dali_tree.specs.Fits.{AreRising}
use Rattle.dali_fixes.proofs.Undoing.{undecided_again}
use Rattle.dali_check.specs.Sides.{opened}
use Rattle.dali_check.proofs.Alike.{Like}

-- a place that was decided and is undecided again
pub put_back : (f : List Mark) (j : ℕ) (m : Mark) → mark f j ≡ Undecided → set (set f j m) j Undecided ≡ f
put_back f j m was = set-set f j m Undecided ∙ undecided_again f j was

-- the test tells what `Contains` says
pub has_at : (xs : List ℕ) (k d : ℕ) → k < length xs → has xs (get_or xs k d) ≡ true
has_at [] k d within = absurd (omega arith)
has_at (x ∷ xs) zero d within = elim (eqb_tells x x) as (λ _. has (x ∷ xs) x ≡ true) [
  | inl same ↦ ap (λ b. b || has xs x) same.0
  | inr other ↦ absurd (other.1 refl)
]
has_at (x ∷ xs) (suc k) d within = ap (λ b. eqb x (get_or xs k d) || b) (has_at xs k d (omega arith)) ∙ or_true (eqb x (get_or xs k d))
  where
    or_true : (b : Bool) → (b || true) ≡ true
    or_true true = refl
    or_true false = refl

pub has_of : (xs : List ℕ) (j : ℕ) → Contains xs j → has xs j ≡ true
has_of xs j there = ap (has xs) (sym there.2) ∙ has_at xs there.0 j there.1

pub contains_has : (xs : List ℕ) (j : ℕ) → has xs j ≡ true → Contains xs j
contains_has [] j told = absurd (cc)
contains_has (x ∷ xs) j told = elim (eqb_tells x j) as (λ _. Contains (x ∷ xs) j) [
  | inl same ↦ (0, omega arith, same.1)
  | inr other ↦
      let rest = contains_has xs j (sym (ap (λ b. b || has xs j) other.0) ∙ told) in
      (suc rest.0, omega (arith, rest.1), rest.2)
]

pub has_push : (xs : List ℕ) (x j : ℕ) → has (xs ++ x ∷ []) j ≡ (has xs j || eqb x j)
has_push xs x j = list_any-append (λ k. eqb k j) xs (x ∷ []) ∙ ap (λ b. has xs j || b) (or_false (eqb x j))
  where
    or_false : (b : Bool) → (b || false) ≡ b
    or_false true = refl
    or_false false = refl

-- a rising list has a place once
pub not_earlier : (n : ℕ) (xs : List ℕ) (i d : ℕ) → AreRising n xs → i < length xs → has (take i xs) (get_or xs i d) ≡ false
not_earlier n xs i d rising within = false_from_ne_true (has (take i xs) (get_or xs i d)) (λ told.
    let there = contains_has (take i xs) (get_or xs i d) told in
    let size : length (take i xs) ≡ i = length-take-le {A = ℕ} i xs (omega arith) in
    let less : there.0 < i = omega (arith, there.1) in
    let at : get_or xs there.0 (get_or xs i d) ≡ get_or xs i d = sym (get_or-take i xs there.0 (get_or xs i d) less) ∙ there.2 in
    let rises : get_or xs there.0 d < get_or xs i d = rising.rising there.0 i d less within in
    let same : get_or xs there.0 d ≡ get_or xs there.0 (get_or xs i d) = get_or_default_zero xs there.0 d (omega arith) ∙ sym (get_or_default_zero xs there.0 (get_or xs i d) (omega arith)) in
    absurd (omega arith))

-- the first places of a list have a mark, and the others are as they were
abbrev pub given : List ℕ → Mark → List Mark → ℕ → Mark
given xs m f j = if has xs j then m else mark f j

-- one place more has it
pub given_more : (xs : List ℕ) (i d : ℕ) (m : Mark) (start f g : List Mark) → i < length xs → get_or xs i d < length f →
    g ≡ set f (get_or xs i d) m → ((j : ℕ) → mark f j ≡ given (take i xs) m start j) →
    (j : ℕ) → mark g j ≡ given (take (i + 1) xs) m start j
given_more xs i d m start f g within inside is before j =
    let place : ℕ = get_or xs i d in
    let more : has (take (i + 1) xs) j ≡ (has (take i xs) j || eqb place j) =
    ap (λ ys. has ys j) (take_more xs i d within) ∙ has_push (take i xs) place j in
    ap (λ (h : List Mark). mark h j) is
    ∙ elim (eqb_tells place j) as (λ _. mark (set f place m) j ≡ given (take (i + 1) xs) m start j) [
      | inl same ↦
          ap (mark (set f place m)) (sym same.1) ∙ get_or-set_same f place m Stranger inside
          ∙ sym (ap (λ b. if b then m else mark start j) (more ∙ ap (λ b. has (take i xs) j || b) same.0 ∙ or_true (has (take i xs) j)))
      | inr other ↦
          get_or-set_other f place j m Stranger (λ e. other.1 (sym e)) ∙ before j
          ∙ sym (ap (λ b. if b then m else mark start j) (more ∙ ap (λ b. has (take i xs) j || b) other.0 ∙ or_false (has (take i xs) j)))
    ]
  where
    or_true : (b : Bool) → (b || true) ≡ true
    or_true true = refl
    or_true false = refl

    or_false : (b : Bool) → (b || false) ≡ b
    or_false true = refl
    or_false false = refl

-- members made undecided among places that are left are alike to the members undecided with no others
left_or_stranger : (of : Mark → Bool) (b : Bool) (m : Mark) → of Left ≡ of Stranger → of m ≡ of Stranger →
    of (if b then Undecided else Stranger) ≡ of (if b then Undecided else m)
left_or_stranger of true m left same = refl
left_or_stranger of false m left same = sym same

pub opened_at : (n : ℕ) (members : List ℕ) (j : ℕ) → j < n → mark (opened n members) j ≡ (if has members j then Undecided else Stranger)
opened_at n members j within =
    get_or-map-range_with_len (λ k. if has members k then Undecided else Stranger) 0 n j j Stranger within (omega arith)

pub opened_length : (n : ℕ) (members : List ℕ) → length (opened n members) ≡ n
opened_length n members = length-map-range_with_len (λ k. if has members k then Undecided else Stranger) 0 n

pub opened_past : (n : ℕ) (members : List ℕ) (j : ℕ) → n ≤ j → mark (opened n members) j ≡ Stranger
opened_past n members j past = get_or_past (opened n members) j Stranger (omega (arith, opened_length n members, past))

pub like_opened : (n : ℕ) (members : List ℕ) (start f : List Mark) → length start ≡ n → length f ≡ n → All (λ m. m ≡ Left) start →
    ((j : ℕ) → mark f j ≡ given members Undecided start j) → Like (opened n members) f
like_opened n members start f size same idle marks =
    let at : (of : Mark → Bool) → of Left ≡ of Stranger → (j : ℕ) → of (mark (opened n members) j) ≡ of (mark f j) = λ of left j.
    elim (cases_lt j n) as (λ _. of (mark (opened n members) j) ≡ of (mark f j)) [
      | inl within ↦
          ap of (opened_at n members j within)
          ∙ left_or_stranger of (has members j) (mark start j) left (ap of (idle j Stranger (omega (arith, size, within))) ∙ left)
          ∙ sym (ap of (marks j))
      | inr past ↦ ap of (opened_past n members j past ∙ sym (get_or_past f j Stranger (omega (arith, same, past))))
    ] in
    record {
      size = opened_length n members ∙ sym same;
      undecided = at is_undecided refl;
      chosen = at is_chosen refl;
    }

-- and left again they are as they were
pub left_again : (members : List ℕ) (start f g : List Mark) → length g ≡ length start → All (λ m. m ≡ Left) start →
    ((j : ℕ) → mark f j ≡ given members Undecided start j) → ((j : ℕ) → mark g j ≡ given members Left f j) → All (λ m. m ≡ Left) g
left_again members start f g size idle before after = All-from_get_or (λ m. m ≡ Left) g Stranger (λ k below.
    after k ∙ one (has members k) (mark f k) (mark start k) (before k) (idle k Stranger (omega (arith, size, below))))
  where
    one : (b : Bool) (m s : Mark) → m ≡ (if b then Undecided else s) → s ≡ Left → (if b then Left else m) ≡ Left
    one true m s was left = refl
    one false m s was left = was ∙ left

-- at its turn a member is still as it was
pub given_next : (n : ℕ) (members : List ℕ) (i : ℕ) (m : Mark) (start f : List Mark) → AreRising n members → i < length members →
    ((j : ℕ) → mark f j ≡ given (take i members) m start j) → mark f (get_or members i 0) ≡ mark start (get_or members i 0)
given_next n members i m start f rising within so_far =
    so_far (get_or members i 0) ∙ ap (λ b. if b then m else mark start (get_or members i 0)) (not_earlier n members i 0 rising within)

-- members that are all places are all undecided
pub all_open : (f : List Mark) (members : List ℕ) → length members ≡ length f → ((k : ℕ) → k < length f → get_or members k 0 ≡ k) →
    AllUndecided f members → All (λ m. m ≡ Undecided) f
all_open f members size each undecided = All-from_get_or (λ m. m ≡ Undecided) f Stranger (λ k below.
    undecided.undecided k (k, omega (arith, size, below), get_or_default_zero members k k (omega (arith, size, below)) ∙ each k below))

pub or_assoc : (a b c : Bool) → ((a || b) || c) ≡ (a || (b || c))
or_assoc true b c = refl
or_assoc false b c = refl
