use Rattle.std.proofs.Common.{◌≡◌, ◌≢◌, ◌⊎◌, inl, inr, ℕ, zero, suc, ◌<◌, pos, ◌+ℤ◌, Bool, true, false, ◌&&◌, ◌||◌, not, List, length, set, refl, ap, sym, ◌∙◌, arith}
use Rattle.std.specs.Int.{int_max, int_min}
use Rattle.std.specs.Ordering.{int_eq}
use Rattle.std.proofs.lemmas.Bool.{cases_Bool, cases_eq, cases_lt, and_parts, and_cases, and_left}
use Rattle.std.proofs.lemmas.Bool.Decides.{Decides-int_eq, Decides-below_and}
use Rattle.std.proofs.lemmas.Int.{ints}
use Rattle.std.proofs.lemmas.List.{set_comm, length-set, get_or-set_same, get_or-set_other, get_or_past}
use Rattle.dali_problem.specs.declared.mark.Mark.{Mark}
use Rattle.dali_problem.specs.declared.mark.Mark.TheVariants.{Stranger, Chosen, Left}
use Rattle.dali_problem.specs.Sums.{pick}
use Rattle.dali_problem.specs.Clearing.{Clearing, effect}
use Rattle.dali_problem.specs.Partial.{mark, is_chosen, is_undecided, held}
use Rattle.dali_problem.specs.Rules.{is_negative, credits, debits, is_short, is_barred, is_needed, is_covered, all_below, is_safe}
use Rattle.dali_problem.proofs.Turned.{held_turned, credits_turned, debits_turned, pick_zero}
use Rattle.dali_reduce.specs.Run.{IsQuiet}

true_false : true ≡ false → ⊥
true_false is = cc

-- whether a place changes a line
pub changes_cases : (p : Clearing) (i l : ℕ) → (effect p i l ≡ pos 0) ⊎ (effect p i l ≢ pos 0)
changes_cases p i l = elim (cases_Bool (int_eq (effect p i l) (pos 0))) as (λ _. (effect p i l ≡ pos 0) ⊎ (effect p i l ≢ pos 0)) [
  | inl same ↦ inl ((Decides-int_eq (effect p i l) (pos 0)).0 same)
  | inr other ↦ inr (λ is. true_false (sym ((Decides-int_eq (effect p i l) (pos 0)).1 is) ∙ other))
]

-- a line that a place doesn't change is short, and covered, as before
pub short_same : (p : Clearing) (f : List Mark) (i l : ℕ) (m : Mark) → length f ≡ length p.items → i < length p.items →
    effect p i l ≡ pos 0 → is_short p (set f i m) l ≡ is_short p f l
short_same p f i l m size within none =
    let h = held_turned p f i l m size within in
    let c = credits_turned p f i l m size within in
    let picked : (b : Bool) → pick b (effect p i l) ≡ pos 0 = λ b. ap (pick b) none ∙ pick_zero b in
    let credit : (b : Bool) → pick b (int_max (pos 0) (effect p i l)) ≡ pos 0 = λ b. ap (λ z. pick b (int_max (pos 0) z)) none ∙ pick_zero b in
    let a1 = picked (is_chosen m) in
    let a2 = picked (is_chosen (mark f i)) in
    let a3 = credit (is_undecided m) in
    let a4 = credit (is_undecided (mark f i)) in
    let same : held p (set f i m) l +ℤ credits p (set f i m) l ≡ held p f l +ℤ credits p f l = omega (arith, ints, h, c, a1, a2, a3, a4) in
    ap is_negative same

covered_same : (p : Clearing) (f : List Mark) (i l : ℕ) (m : Mark) → length f ≡ length p.items → i < length p.items →
    effect p i l ≡ pos 0 → is_covered p (set f i m) l ≡ is_covered p f l
covered_same p f i l m size within none =
    let h = held_turned p f i l m size within in
    let c = debits_turned p f i l m size within in
    let picked : (b : Bool) → pick b (effect p i l) ≡ pos 0 = λ b. ap (pick b) none ∙ pick_zero b in
    let debit : (b : Bool) → pick b (int_min (pos 0) (effect p i l)) ≡ pos 0 = λ b. ap (λ z. pick b (int_min (pos 0) z)) none ∙ pick_zero b in
    let a1 = picked (is_chosen m) in
    let a2 = picked (is_chosen (mark f i)) in
    let a3 = debit (is_undecided m) in
    let a4 = debit (is_undecided (mark f i)) in
    let same : held p (set f i m) l +ℤ debits p (set f i m) l ≡ held p f l +ℤ debits p f l = omega (arith, ints, h, c, a1, a2, a3, a4) in
    ap (λ z. not (is_negative z)) same

-- on a line that place i doesn't change, either side of another place is as before
side_same : (p : Clearing) (f : List Mark) (i j l : ℕ) (m side : Mark) → length f ≡ length p.items → i < length p.items → j ≢ i →
    effect p i l ≡ pos 0 →
    (is_undecided (mark (set f i m) j) && is_short p (set (set f i m) j side) l) ≡ (is_undecided (mark f j) && is_short p (set f j side) l)
side_same p f i j l m side size within other none =
    ap (λ x. is_undecided x && is_short p (set (set f i m) j side) l) (get_or-set_other f i j m Stranger other)
    ∙ ap (λ (h : List Mark). is_undecided (mark f j) && is_short p h l) (set_comm f i j m side (λ same. other (sym same)))
    ∙ ap (λ b. is_undecided (mark f j) && b) (short_same p (set f j side) i l m (length-set f j side ∙ size) within none)

decided_here : (f : List Mark) (i j : ℕ) (m : Mark) → i < length f → is_undecided m ≡ false → j ≡ i → is_undecided (mark (set f i m) j) ≡ false
decided_here f i j m inside decided same =
    ap (λ k. is_undecided (mark (set f i m) k)) same ∙ ap is_undecided (get_or-set_same f i m Stranger inside) ∙ decided

-- a line that place i doesn't change stays quiet
pub turn_quiet : (p : Clearing) (f : List Mark) (i l : ℕ) (m : Mark) → length f ≡ length p.items → i < length p.items →
    is_undecided m ≡ false → effect p i l ≡ pos 0 → IsQuiet p f l → IsQuiet p (set f i m) l
turn_quiet p f i l m size within decided none quiet =
    let inside : i < length f = omega (arith, size, within) in
    record {
      long = short_same p f i l m size within none ∙ quiet.long;
      barred = (λ j. elim (cases_eq j i) as (λ _. is_barred p (set f i m) j l ≡ false) [
        | inl same ↦ and_left (is_undecided (mark (set f i m) j)) (is_short p (set (set f i m) j Chosen) l) (decided_here f i j m inside decided same)
        | inr other ↦ side_same p f i j l m Chosen size within other none ∙ quiet.barred j
      ]);
      needed = (λ j. elim (cases_eq j i) as (λ _. is_needed p (set f i m) j l ≡ false) [
        | inl same ↦ and_left (is_undecided (mark (set f i m) j)) (is_short p (set (set f i m) j Left) l) (decided_here f i j m inside decided same)
        | inr other ↦ side_same p f i j l m Left size within other none ∙ quiet.needed j
      ]);
    }

-- a test that doesn't hold below a number fails somewhere
pub all_below_finds : (test : ℕ → Bool) (n : ℕ) → all_below test n ≡ false → (k : ℕ) × (k < n) × (test k ≡ false)
all_below_finds test zero told = absurd (true_false told)
all_below_finds test (suc n) told = elim (and_cases (test n) (all_below test n) told) as (λ _. (k : ℕ) × (k < suc n) × (test k ≡ false)) [
  | inl here ↦ (n, omega arith, here)
  | inr before ↦
      let found = all_below_finds test n before in
      (found.0, omega (arith, found.1), found.2)
]

pub all_below_at : (test : ℕ → Bool) (n k : ℕ) → all_below test n ≡ true → k < n → test k ≡ true
all_below_at test n k told within =
    (Decides-below_and test (λ i. test i ≡ true) (all_below test) (λ i. (λ x. x, λ x. x)) refl (λ _. refl) n).0 told k within

-- a line that place j debits, and that place i changes
pub record Meets (p : Clearing) (i j : ℕ) : Type 0 where
  pub line : ℕ
  pub debited : is_negative (effect p j line) ≡ true
  pub changed : effect p i line ≢ pos 0

-- what asks of a line that it is covered
abbrev pub asks : Clearing → List Mark → ℕ → ℕ → Bool
asks p f j l = not (is_negative (effect p j l)) || is_covered p f l

asked : (a b : Bool) → (not a || b) ≡ false → (a ≡ true) × (b ≡ false)
asked true b told = (refl, told)
asked false b told = absurd (true_false told)

answered : (a b : Bool) → a ≡ true → (not a || b) ≡ true → b ≡ true
answered true b is told = told
answered false b is told = absurd (true_false (sym is))

-- what wasn't safe is so only where a line that it debits was changed
pub turn_unsafe : (p : Clearing) (f : List Mark) (i j : ℕ) (m : Mark) → length f ≡ length p.items → i < length p.items →
    is_undecided m ≡ false → is_safe p f j ≡ false → (is_safe p (set f i m) j ≡ false) ⊎ Meets p i j
turn_unsafe p f i j m size within decided unsafe =
    let g : List Mark = set f i m in
    let inside : i < length f = omega (arith, size, within) in
    elim (cases_Bool (is_safe p g j)) as (λ _. (is_safe p g j ≡ false) ⊎ Meets p i j) [
      | inr still ↦ inl still
      | inl told ↦
          let parts = and_parts (is_undecided (mark g j)) (all_below (asks p g j) (length p.lines)) told in
          let other : j ≢ i = λ same. true_false (sym parts.0 ∙ decided_here f i j m inside decided same) in
          let was : is_undecided (mark f j) ≡ true = ap is_undecided (sym (get_or-set_other f i j m Stranger other)) ∙ parts.0 in
          let fails : all_below (asks p f j) (length p.lines) ≡ false = sym (ap (λ b. b && all_below (asks p f j) (length p.lines)) was) ∙ unsafe in
          let found = all_below_finds (asks p f j) (length p.lines) fails in
          let no = asked (is_negative (effect p j found.0)) (is_covered p f found.0) found.2 in
          let yes = answered (is_negative (effect p j found.0)) (is_covered p g found.0) no.0 (all_below_at (asks p g j) (length p.lines) found.0 parts.1 found.1) in
          inr (record {
            line = found.0;
            debited = no.0;
            changed = λ none. true_false (sym yes ∙ covered_same p f i found.0 m size within none ∙ no.1);
          })
    ]

-- on a line that isn't short, what doesn't change it is neither barred nor needed
pub quiet_off : (p : Clearing) (f : List Mark) (j l : ℕ) (side : Mark) → length f ≡ length p.items → effect p j l ≡ pos 0 → is_short p f l ≡ false →
    (is_undecided (mark f j) && is_short p (set f j side) l) ≡ false
quiet_off p f j l side size none long = elim (cases_lt j (length p.items)) as (λ _. (is_undecided (mark f j) && is_short p (set f j side) l) ≡ false) [
  | inl within ↦ second (is_undecided (mark f j)) (is_short p (set f j side) l) (short_same p f j l side size within none ∙ long)
  | inr past ↦ and_left (is_undecided (mark f j)) (is_short p (set f j side) l) (ap is_undecided (get_or_past f j Stranger (omega (arith, size, past))))
]
  where
    second : (a b : Bool) → b ≡ false → (a && b) ≡ false
    second true b is = is
    second false b is = refl
