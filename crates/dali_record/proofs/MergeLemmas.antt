-- Two lists of multipliers, taken line by line.
use Rattle.std.proofs.Common.{◌≡◌, ◌≢◌, inl, inr, ℕ, zero, suc, ◌+◌, ◌-◌, ◌<◌, ◌≤◌, Bool, true, false, cond, eqb, ◌&&◌, List, [], ◌∷◌, ◌++◌, length, Option, Some, None, refl, sym, ◌∙◌, ap, subst, arith}
use Rattle.std.specs.Prelude.{min, unwrap_or}
use Rattle.std.specs.List.{list_all}
use Rattle.std.proofs.lemmas.Bool.{eq-eqb, ne_eqb, cases_eq, cond-true, cond-false, not_from_false, not_from_true}
use Rattle.std.proofs.lemmas.Bool.Decides.{eqb_tells}
use Rattle.std.proofs.lemmas.List.{append-nil}
use Rattle.dali_record.specs.Multipliers.{Rises, at_line, behind, all_zero, multiplier, change, changes_from, changes, list_of}
use Rattle.dali_record.specs.Merging.{least, taken_value, taken_rest, own_of}
use Rattle.dali_record.specs.Reading.{differs}
use Rattle.dali_record.proofs.ChangeLemmas.{at_head, at_tail, none_before, change_none, changes_more}

-- ---- one line

-- the least line of two lists that rise
record IsLeast (from line : ℕ) (first second : List (ℕ × ℕ)) : Type 0 where
  low : from ≤ line
  high : line < 4096
  first_rises : Rises line 4096 first
  second_rises : Rises line 4096 second

some_line : (m n : ℕ) → Some m ≡ Some n → m ≡ n
some_line m n e = cc

least_is : (from line : ℕ) (first second : List (ℕ × ℕ)) → Rises from 4096 first → Rises from 4096 second → least first second ≡ Some line → IsLeast from line first second
least_is from line [] [] a b e = absurd cc
least_is from line (x ∷ first) [] a b e =
    let is = some_line x.0 line e in
    record { low = omega (arith, a.0, is); high = omega (arith, a.1, is); first_rises = (omega (arith, is), a.1, a.2); second_rises = tt }
least_is from line [] (y ∷ second) a b e =
    let is = some_line y.0 line e in
    record { low = omega (arith, b.0, is); high = omega (arith, b.1, is); first_rises = tt; second_rises = (omega (arith, is), b.1, b.2) }
least_is from line (x ∷ first) (y ∷ second) a b e =
    let is = some_line (min x.0 y.0) line e in
    record { low = omega (arith, a.0, b.0, is); high = omega (arith, a.1, b.1, is); first_rises = (omega (arith, is), a.1, a.2); second_rises = (omega (arith, is), b.1, b.2) }

none_left : (first second : List (ℕ × ℕ)) → least first second ≡ None → (first ≡ []) × (second ≡ [])
none_left [] [] e = (refl, refl)
none_left (x ∷ first) [] e = absurd cc
none_left [] (y ∷ second) e = absurd cc
none_left (x ∷ first) (y ∷ second) e = absurd cc

-- what is taken on the line that a list may begin with
record IsTaken (line : ℕ) (list : List (ℕ × ℕ)) : Type 0 where
  value : taken_value list line ≡ at_line list line
  rises : Rises (suc line) 4096 (taken_rest list line)
  same : (l : ℕ) → suc line ≤ l → at_line (taken_rest list line) l ≡ at_line list l

taken_is : (line : ℕ) (list : List (ℕ × ℕ)) → Rises line 4096 list → IsTaken line list
taken_is line [] rises = record { value = refl; rises = tt; same = (λ l from. refl) }
taken_is line (m ∷ ms) rises =
    elim (eqb_tells m.0 line) as (λ _. IsTaken line (m ∷ ms)) [
      | inl is ↦
          let rest : taken_rest (m ∷ ms) line ≡ ms = cond-true (eqb m.0 line) ms (m ∷ ms) is.0 in
          record {
            value = cond-true (eqb m.0 line) (Some m.1) None is.0 ∙ sym (at_head m ms line is.1);
            rises = subst (λ (x : List (ℕ × ℕ)). Rises (suc line) 4096 x) (sym rest) (subst (λ (k : ℕ). Rises (suc k) 4096 ms) is.1 rises.2);
            same = (λ l from. ap (λ (x : List (ℕ × ℕ)). at_line x l) rest ∙ sym (at_tail m ms l (λ at. omega (arith, at, is.1))));
          }
      | inr other ↦
          let rest : taken_rest (m ∷ ms) line ≡ m ∷ ms = cond-false (eqb m.0 line) ms (m ∷ ms) other.0 in
          let later : suc line ≤ m.0 = omega (arith, rises.0, other.1) in
          let whole : Rises (suc line) 4096 (m ∷ ms) = (later, rises.1, rises.2) in
          record {
            value = cond-false (eqb m.0 line) (Some m.1) None other.0 ∙ sym (none_before (suc line) 4096 line (m ∷ ms) whole (omega arith));
            rises = subst (λ (x : List (ℕ × ℕ)). Rises (suc line) 4096 x) (sym rest) whole;
            same = (λ l from. ap (λ (x : List (ℕ × ℕ)). at_line x l) rest);
          }
    ]

rest_shorter : (list : List (ℕ × ℕ)) (line : ℕ) → length (taken_rest list line) ≤ length list
rest_shorter [] line = omega arith
rest_shorter (m ∷ ms) line =
    elim (eqb_tells m.0 line) as (λ _. length (taken_rest (m ∷ ms) line) ≤ length (m ∷ ms)) [
      | inl is ↦ subst (λ (x : List (ℕ × ℕ)). length x ≤ length (m ∷ ms)) (sym (cond-true (eqb m.0 line) ms (m ∷ ms) is.0)) (omega arith)
      | inr other ↦ subst (λ (x : List (ℕ × ℕ)). length x ≤ length (m ∷ ms)) (sym (cond-false (eqb m.0 line) ms (m ∷ ms) other.0)) (omega arith)
    ]

head_taken : (m : ℕ × ℕ) (ms : List (ℕ × ℕ)) → length (taken_rest (m ∷ ms) m.0) ≡ length ms
head_taken m ms = ap (λ (x : List (ℕ × ℕ)). length x) (cond-true (eqb m.0 m.0) ms (m ∷ ms) (eq-eqb m.0 m.0 refl))

-- each turn takes something
pub shorter : (first second : List (ℕ × ℕ)) (line : ℕ) → least first second ≡ Some line → length (taken_rest first line) + length (taken_rest second line) < length first + length second
shorter [] [] line e = absurd cc
shorter (x ∷ first) [] line e =
    let is = some_line x.0 line e in
    let gone = subst (λ (k : ℕ). length (taken_rest (x ∷ first) k) ≡ length first) is (head_taken x first) in
    omega (arith, gone)
shorter [] (y ∷ second) line e =
    let is = some_line y.0 line e in
    let gone = subst (λ (k : ℕ). length (taken_rest (y ∷ second) k) ≡ length second) is (head_taken y second) in
    omega (arith, gone)
shorter (x ∷ first) (y ∷ second) line e =
    let is = some_line (min x.0 y.0) line e in
    let a = rest_shorter (x ∷ first) line in
    let b = rest_shorter (y ∷ second) line in
    elim (cases_eq x.0 line) as (λ _. length (taken_rest (x ∷ first) line) + length (taken_rest (y ∷ second) line) < length (x ∷ first) + length (y ∷ second)) [
      | inl at ↦
          let gone = subst (λ (k : ℕ). length (taken_rest (x ∷ first) k) ≡ length first) at (head_taken x first) in
          omega (arith, gone, b)
      | inr other ↦
          let at : y.0 ≡ line = omega (arith, is, other) in
          let gone = subst (λ (k : ℕ). length (taken_rest (y ∷ second) k) ≡ length second) at (head_taken y second) in
          omega (arith, gone, a)
    ]

-- ---- all lines

-- lines where nothing changes make no changes
gap : (f g : ℕ → ℕ) (from n : ℕ) → ((l : ℕ) → from ≤ l → l < from + n → g l ≡ f l) → changes_from f g 0 (from + n) ≡ changes_from f g 0 from
gap f g from zero same = ap (changes_from f g 0) (omega arith)
gap f g from (suc n) same =
    let at : from + suc n ≡ suc (from + n) = omega arith in
    ap (changes_from f g 0) at ∙ changes_more f g 0 (from + n)
    ∙ ap (λ (x : List (ℕ × ℕ)). changes_from f g 0 (from + n) ++ x) (change_none f g (0 + (from + n)) (same (0 + (from + n)) (omega arith) (omega arith)))
    ∙ append-nil (changes_from f g 0 (from + n)) ∙ gap f g from n (λ l low high. same l low (omega (arith, high)))

-- the changes from f to g on the lines so far, and what is left of two lists, which begin to differ from what they were
-- only on lines that were taken
pub record Merged (a b : ℕ → Option ℕ) (f g : ℕ → ℕ) (out first second : List (ℕ × ℕ)) : Type 0 where
  pub from : ℕ
  pub upto : from ≤ 4096
  pub made : out ≡ changes_from f g 0 from
  pub first_rises : Rises from 4096 first
  pub second_rises : Rises from 4096 second
  pub first_same : (l : ℕ) → from ≤ l → at_line first l ≡ a l
  pub second_same : (l : ℕ) → from ≤ l → at_line second l ≡ b l

-- nothing changes on a line that neither list has
abbrev pub IsQuiet : (ℕ → Option ℕ) → (ℕ → Option ℕ) → (ℕ → ℕ) → (ℕ → ℕ) → Type 0
IsQuiet a b f g = (l : ℕ) → a l ≡ None → b l ≡ None → g l ≡ f l

pub merged_start : (f g : ℕ → ℕ) (first second : List (ℕ × ℕ)) → Rises 0 4096 first → Rises 0 4096 second → Merged (at_line first) (at_line second) f g [] first second
unfolding changes_from
merged_start f g first second a b = record {
  from = 0;
  upto = omega arith;
  made = refl;
  first_rises = a;
  second_rises = b;
  first_same = (λ l low. refl);
  second_same = (λ l low. refl);
}

-- what a turn takes, and what it leaves
pub record Turned (a b : ℕ → Option ℕ) (f g : ℕ → ℕ) (out first second : List (ℕ × ℕ)) (line : ℕ) : Type 0 where
  pub first_value : taken_value first line ≡ a line
  pub second_value : taken_value second line ≡ b line
  pub next : Merged a b f g (out ++ change f g line) (taken_rest first line) (taken_rest second line)

pub merged_turn : (a b : ℕ → Option ℕ) (f g : ℕ → ℕ) (out first second : List (ℕ × ℕ)) (line : ℕ) → IsQuiet a b f g → Merged a b f g out first second → least first second ≡ Some line →
    Turned a b f g out first second line
merged_turn a b f g out first second line quiet so_far e =
    let is = least_is so_far.from line first second so_far.first_rises so_far.second_rises e in
    let one = taken_is line first is.first_rises in
    let two = taken_is line second is.second_rises in
    let width : so_far.from + (line - so_far.from) ≡ line = omega (arith, is.low) in
    let still : changes_from f g 0 line ≡ changes_from f g 0 so_far.from =
    ap (changes_from f g 0) (sym width) ∙ gap f g so_far.from (line - so_far.from) (λ l low high.
    quiet l
    (sym (so_far.first_same l low) ∙ none_before line 4096 l first is.first_rises (omega (arith, high, width)))
    (sym (so_far.second_same l low) ∙ none_before line 4096 l second is.second_rises (omega (arith, high, width)))) in
    record {
      first_value = one.value ∙ so_far.first_same line is.low;
      second_value = two.value ∙ so_far.second_same line is.low;
      next = record {
        from = suc line;
        upto = is.high;
        made = ap (λ (x : List (ℕ × ℕ)). x ++ change f g line) (so_far.made ∙ sym still) ∙ sym (changes_more f g 0 line ∙ ap (λ (k : ℕ). changes_from f g 0 line ++ change f g k) (omega arith));
        first_rises = one.rises;
        second_rises = two.rises;
        first_same = (λ l low. one.same l low ∙ so_far.first_same l (omega (arith, low, is.low)));
        second_same = (λ l low. two.same l low ∙ so_far.second_same l (omega (arith, low, is.low)));
      };
    }

pub merged_end : (a b : ℕ → Option ℕ) (f g : ℕ → ℕ) (out first second : List (ℕ × ℕ)) → IsQuiet a b f g → Merged a b f g out first second → least first second ≡ None → out ≡ changes f g
merged_end a b f g out first second quiet so_far e =
    let gone = none_left first second e in
    let up = so_far.upto in
    let width : so_far.from + (4096 - so_far.from) ≡ 4096 = omega (arith, up) in
    so_far.made ∙ sym (ap (changes_from f g 0) (sym width) ∙ gap f g so_far.from (4096 - so_far.from) (λ l low high.
    quiet l
    (sym (so_far.first_same l low) ∙ ap (λ (x : List (ℕ × ℕ)). at_line x l) gone.0)
    (sym (so_far.second_same l low) ∙ ap (λ (x : List (ℕ × ℕ)). at_line x l) gone.1)))

-- ---- the changes of one list from another

pub quiet_changes : (first second : List (ℕ × ℕ)) → IsQuiet (at_line first) (at_line second) (multiplier first) (multiplier second)
quiet_changes first second l one two = ap (λ o. unwrap_or o 0) two ∙ sym (ap (λ o. unwrap_or o 0) one)

pub quiet_behind : (first second : List (ℕ × ℕ)) → IsQuiet (at_line first) (at_line second) all_zero (behind (multiplier first) second)
quiet_behind first second l one two = ap (λ o. unwrap_or o (multiplier first l)) two ∙ ap (λ o. unwrap_or o 0) one

-- ---- changes that differ

-- a change to what stands above is none
pub same_taken : (above : ℕ → ℕ) (list : List (ℕ × ℕ)) (line : ℕ) → taken_value list line ≡ Some (above line) → list_all (differs above) list ≡ false
same_taken above [] line e = absurd cc
same_taken above (m ∷ ms) line e =
    elim (eqb_tells m.0 line) as (λ _. list_all (differs above) (m ∷ ms) ≡ false) [
      | inl is ↦
          let told : Some m.1 ≡ Some (above line) = sym (cond-true (eqb m.0 line) (Some m.1) None is.0) ∙ e in
          let same = some_line m.1 (above line) told ∙ ap above (sym is.1) in
          ap (λ (t : Bool). t && list_all (differs above) ms) (not_from_true (eqb m.1 (above m.0)) (eq-eqb m.1 (above m.0) same))
      | inr other ↦ absurd (let no = sym (cond-false (eqb m.0 line) (Some m.1) None other.0) ∙ e in cc)
    ]

-- where the change that is taken differs, the rest tells whether all do
pub rest_differs : (above : ℕ → ℕ) (list : List (ℕ × ℕ)) (line : ℕ) → (taken_value list line ≡ Some (above line) → ⊥) → list_all (differs above) (taken_rest list line) ≡ list_all (differs above) list
rest_differs above [] line other = refl
rest_differs above (m ∷ ms) line other =
    elim (eqb_tells m.0 line) as (λ _. list_all (differs above) (taken_rest (m ∷ ms) line) ≡ list_all (differs above) (m ∷ ms)) [
      | inl is ↦
          let apart : m.1 ≢ above m.0 = λ same. other (cond-true (eqb m.0 line) (Some m.1) None is.0 ∙ ap (λ (k : ℕ). Some k) (same ∙ ap above is.1)) in
          ap (λ (x : List (ℕ × ℕ)). list_all (differs above) x) (cond-true (eqb m.0 line) ms (m ∷ ms) is.0)
          ∙ sym (ap (λ (t : Bool). t && list_all (differs above) ms) (not_from_false (eqb m.1 (above m.0)) (ne_eqb m.1 (above m.0) apart)))
      | inr apart ↦ ap (λ (x : List (ℕ × ℕ)). list_all (differs above) x) (cond-false (eqb m.0 line) ms (m ∷ ms) apart.0)
    ]

-- ---- turns as the code takes them

pub changes_turn : (above own found above_left own_left new : List (ℕ × ℕ)) (line before after : ℕ) →
    Merged (at_line above) (at_line own) (multiplier above) (multiplier own) found above_left own_left → least above_left own_left ≡ Some line →
    before ≡ unwrap_or (taken_value above_left line) 0 → after ≡ unwrap_or (taken_value own_left line) 0 → new ≡ found ++ cond (eqb after before) [] ((line, after) ∷ []) →
    Merged (at_line above) (at_line own) (multiplier above) (multiplier own) new (taken_rest above_left line) (taken_rest own_left line)
changes_turn above own found above_left own_left new line before after so_far e was is pushed =
    let t = merged_turn (at_line above) (at_line own) (multiplier above) (multiplier own) found above_left own_left line (quiet_changes above own) so_far e in
    let b : before ≡ multiplier above line = was ∙ ap (λ o. unwrap_or o 0) t.first_value in
    let a : after ≡ multiplier own line = is ∙ ap (λ o. unwrap_or o 0) t.second_value in
    let same : new ≡ found ++ change (multiplier above) (multiplier own) line =
    pushed ∙ ap (λ (k : ℕ). found ++ cond (eqb after k) [] ((line, after) ∷ [])) b
    ∙ ap (λ (k : ℕ). found ++ cond (eqb k (multiplier above line)) [] ((line, k) ∷ [])) a in
    subst (λ (x : List (ℕ × ℕ)). Merged (at_line above) (at_line own) (multiplier above) (multiplier own) x (taken_rest above_left line) (taken_rest own_left line)) (sym same) t.next

pub changes_end : (above own found above_left own_left : List (ℕ × ℕ)) →
    Merged (at_line above) (at_line own) (multiplier above) (multiplier own) found above_left own_left → least above_left own_left ≡ None → found ≡ changes (multiplier above) (multiplier own)
changes_end above own found above_left own_left so_far e =
    merged_end (at_line above) (at_line own) (multiplier above) (multiplier own) found above_left own_left (quiet_changes above own) so_far e

own_told : (before own : ℕ) (o : Option ℕ) → own_of before o ≡ Some own → (o ≡ Some before → ⊥) × (own ≡ unwrap_or o before)
own_told before own None e = (λ no_change. cc, sym (some_line before own e))
own_told before own (Some m) e =
    elim (eqb_tells m before) as (λ _. (Some m ≡ Some before → ⊥) × (own ≡ m)) [
      | inl is ↦ absurd (let none = sym (cond-true (eqb m before) None (Some m) is.0) ∙ e in cc)
      | inr other ↦ (λ same. other.1 (some_line m before same), sym (some_line m own (sym (cond-false (eqb m before) None (Some m) other.0) ∙ e)))
    ]

own_none : (before : ℕ) (o : Option ℕ) → own_of before o ≡ None → o ≡ Some before
own_none before None e = absurd cc
own_none before (Some m) e =
    elim (eqb_tells m before) as (λ _. Some m ≡ Some before) [
      | inl is ↦ ap (λ (k : ℕ). Some k) is.1
      | inr other ↦ absurd (let some = sym (cond-false (eqb m before) None (Some m) other.0) ∙ e in cc)
    ]

-- the multipliers so far that changes make, and whether the changes that are left differ
pub record Making (above given lam above_left given_left : List (ℕ × ℕ)) : Type 0 where
  pub lines : Merged (at_line above) (at_line given) all_zero (behind (multiplier above) given) lam above_left given_left
  pub others : list_all (differs (multiplier above)) given_left ≡ list_all (differs (multiplier above)) given

pub making_start : (above given : List (ℕ × ℕ)) → Rises 0 4096 above → Rises 0 4096 given → Making above given [] above given
making_start above given a b = record { lines = merged_start all_zero (behind (multiplier above) given) above given a b; others = refl }

making_turned : (above given lam above_left given_left : List (ℕ × ℕ)) (line : ℕ) → Making above given lam above_left given_left → least above_left given_left ≡ Some line →
    Turned (at_line above) (at_line given) all_zero (behind (multiplier above) given) lam above_left given_left line
making_turned above given lam above_left given_left line so_far e =
    merged_turn (at_line above) (at_line given) all_zero (behind (multiplier above) given) lam above_left given_left line (quiet_behind above given) so_far.lines e

pub making_turn : (above given lam above_left given_left new : List (ℕ × ℕ)) (line before own : ℕ) → Making above given lam above_left given_left → least above_left given_left ≡ Some line →
    before ≡ unwrap_or (taken_value above_left line) 0 → own_of before (taken_value given_left line) ≡ Some own → new ≡ lam ++ cond (eqb own 0) [] ((line, own) ∷ []) →
    Making above given new (taken_rest above_left line) (taken_rest given_left line)
making_turn above given lam above_left given_left new line before own so_far e was is pushed =
    let t = making_turned above given lam above_left given_left line so_far e in
    let b : before ≡ multiplier above line = was ∙ ap (λ o. unwrap_or o 0) t.first_value in
    let told = own_told before own (taken_value given_left line) is in
    let o : own ≡ behind (multiplier above) given line = told.1 ∙ ap (λ (k : ℕ). unwrap_or (taken_value given_left line) k) b ∙ ap (λ x. unwrap_or x (multiplier above line)) t.second_value in
    let same : new ≡ lam ++ change all_zero (behind (multiplier above) given) line = pushed ∙ ap (λ (k : ℕ). lam ++ cond (eqb k 0) [] ((line, k) ∷ [])) o in
    record {
      lines = subst (λ (x : List (ℕ × ℕ)). Merged (at_line above) (at_line given) all_zero (behind (multiplier above) given) x (taken_rest above_left line) (taken_rest given_left line)) (sym same) t.next;
      others = rest_differs (multiplier above) given_left line (λ at. told.0 (at ∙ ap (λ (k : ℕ). Some k) (sym b))) ∙ so_far.others;
    }

pub making_fails : {X : Type 0} (above given lam above_left given_left : List (ℕ × ℕ)) (line before : ℕ) (x : X) → Making above given lam above_left given_left → least above_left given_left ≡ Some line →
    before ≡ unwrap_or (taken_value above_left line) 0 → own_of before (taken_value given_left line) ≡ None → cond (list_all (differs (multiplier above)) given) (Some x) None ≡ None
making_fails above given lam above_left given_left line before x so_far e was is =
    let t = making_turned above given lam above_left given_left line so_far e in
    let b : before ≡ multiplier above line = was ∙ ap (λ o. unwrap_or o 0) t.first_value in
    let none = same_taken (multiplier above) given_left line (own_none before (taken_value given_left line) is ∙ ap (λ (k : ℕ). Some k) b) in
    cond-false (list_all (differs (multiplier above)) given) (Some x) None (sym so_far.others ∙ none)

pub making_end : (above given lam above_left given_left : List (ℕ × ℕ)) → Making above given lam above_left given_left → least above_left given_left ≡ None →
    cond (list_all (differs (multiplier above)) given) (Some (list_of (behind (multiplier above) given))) None ≡ Some lam
making_end above given lam above_left given_left so_far e =
    let gone = none_left above_left given_left e in
    let all : list_all (differs (multiplier above)) given ≡ true = sym so_far.others ∙ ap (λ (x : List (ℕ × ℕ)). list_all (differs (multiplier above)) x) gone.1 in
    cond-true (list_all (differs (multiplier above)) given) (Some (list_of (behind (multiplier above) given))) None all
    ∙ ap (λ (x : List (ℕ × ℕ)). Some x) (sym (merged_end (at_line above) (at_line given) all_zero (behind (multiplier above) given) lam above_left given_left (quiet_behind above given) so_far.lines e))
