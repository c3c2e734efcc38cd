use Rattle.std.proofs.Common.{◌≡◌, inl, inr, ℕ, zero, suc, ◌+◌, ◌<◌, ℤ, pos, ◌+ℤ◌, ◌≤ℤ◌, Bool, true, false, ◌&&◌, ◌||◌, not, List, length, get_or, set, refl, ap, sym, ◌∙◌, subst, arith, add-one}
use Rattle.std.specs.Bool.{Decides}
use Rattle.std.specs.List.{All, list_all}
use Rattle.std.specs.Int.{int_max}
use Rattle.std.specs.Int.Signed.{lt_z}
use Rattle.std.proofs.lemmas.Bool.{cases_Bool, and_from, and_cases, and_right, false_from_ne_true, not-false, not-true}
use Rattle.std.proofs.lemmas.Bool.Decides.{Decides-below_and, Decides-by_and, Decides-like, same_from_decides}
use Rattle.std.proofs.lemmas.Int.{ints, clamps}
use Rattle.dali_problem.specs.declared.row.Effect.{Effect}
use Rattle.dali_problem.specs.declared.mark.Mark.{Mark}
use Rattle.dali_problem.specs.declared.mark.Mark.TheVariants.{Undecided, Chosen, Left}
use Rattle.dali_problem.specs.Sums.{sum_over, pick}
use Rattle.dali_problem.specs.Clearing.{Clearing, item_at, effect, on_line}
use Rattle.dali_problem.specs.Limits.{AreEffects}
use Rattle.dali_problem.specs.Partial.{mark, is_chosen, is_undecided, held}
use Rattle.dali_problem.specs.Rules.{is_negative, credits, is_short, is_barred, is_needed, is_covered, is_safe, all_below}
use Rattle.dali_problem.proofs.Turned.{held_turned, credits_turned}
use Rattle.dali_problem.proofs.RuleTests.{undecided_is, present}
use Rattle.dali_check.specs.Lean.{is_reduced, is_open}

-- a test that fails at one number fails below any later one
pub all_below_at : (test : ℕ → Bool) (n k : ℕ) → all_below test n ≡ true → k < n → test k ≡ true
all_below_at test n k told within =
    (Decides-below_and test (λ i. test i ≡ true) (all_below test) (λ i. (λ x. x, λ x. x)) refl (λ _. refl) n).0 told k within

pub all_below_of : (test : ℕ → Bool) (n : ℕ) → ((k : ℕ) → k < n → test k ≡ true) → all_below test n ≡ true
all_below_of test n each =
    (Decides-below_and test (λ i. test i ≡ true) (all_below test) (λ i. (λ x. x, λ x. x)) refl (λ _. refl) n).1 each

pub all_below_fails : (test : ℕ → Bool) (n k : ℕ) → test k ≡ false → k < n → all_below test n ≡ false
all_below_fails test n k fails within = false_from_ne_true (all_below test n) (λ told. false_true (sym fails ∙ all_below_at test n k told within))
  where
    false_true : false ≡ true → ⊥
    false_true is = cc

pub all_below_more : (test : ℕ → Bool) (n : ℕ) → all_below test n ≡ true → test n ≡ true → all_below test (n + 1) ≡ true
all_below_more test n before here = ap (all_below test) (add-one n) ∙ and_from (test n) (all_below test n) here before

-- a line that a place doesn't change is short as before
short_quiet : (p : Clearing) (f : List Mark) (j l : ℕ) (m : Mark) → length f ≡ length p.items → j < length p.items →
    effect p j l ≡ pos 0 → is_short p (set f j m) l ≡ is_short p f l
short_quiet p f j l m size within quiet =
    let h = held_turned p f j l m size within in
    let c = credits_turned p f j l m size within in
    let zero_pick : (b : Bool) → pick b (effect p j l) ≡ pos 0 = λ b. ap (pick b) quiet ∙ nothing b in
    let zero_credit : (b : Bool) → pick b (int_max (pos 0) (effect p j l)) ≡ pos 0 = λ b. ap (λ z. pick b (int_max (pos 0) z)) quiet ∙ nothing b in
    let z1 = zero_pick (is_chosen m) in
    let z2 = zero_pick (is_chosen (mark f j)) in
    let z3 = zero_credit (is_undecided m) in
    let z4 = zero_credit (is_undecided (mark f j)) in
    let same : held p (set f j m) l +ℤ credits p (set f j m) l ≡ held p f l +ℤ credits p f l = omega (arith, ints, h, c, z1, z2, z3, z4) in
    ap is_negative same
  where
    nothing : (b : Bool) → pick b (pos 0) ≡ pos 0
    nothing true = refl
    nothing false = refl

-- what a place leaves on a line: neither rule holds
abbrev pub is_quiet : Clearing → List Mark → ℕ → ℕ → Bool
is_quiet p f j l = not (is_barred p f j l) && not (is_needed p f j l)

-- on a line that isn't short, a place that doesn't change it leaves nothing to fix
pub quiet_line : (p : Clearing) (f : List Mark) (j l : ℕ) → length f ≡ length p.items → j < length p.items →
    effect p j l ≡ pos 0 → is_short p f l ≡ false → is_quiet p f j l ≡ true
quiet_line p f j l size within quiet long =
    let barred : is_barred p f j l ≡ false = second (is_undecided (mark f j)) (is_short p (set f j Chosen) l) (short_quiet p f j l Chosen size within quiet ∙ long) in
    let needed : is_needed p f j l ≡ false = second (is_undecided (mark f j)) (is_short p (set f j Left) l) (short_quiet p f j l Left size within quiet ∙ long) in
    and_from (not (is_barred p f j l)) (not (is_needed p f j l)) (ap not barred) (ap not needed)
  where
    second : (a b : Bool) → b ≡ false → (a && b) ≡ false
    second true b is = is
    second false b is = refl

-- a short line bars every undecided place
pub short_bars : (p : Clearing) (f : List Mark) (j l : ℕ) → length f ≡ length p.items → j < length p.items →
    is_undecided (mark f j) ≡ true → is_short p f l ≡ true → is_quiet p f j l ≡ false
short_bars p f j l size within undecided short =
    let was : mark f j ≡ Undecided = undecided_is (mark f j) undecided in
    let e : ℤ = effect p j l in
    let h = held_turned p f j l Chosen size within in
    let c = credits_turned p f j l Chosen size within in
    let was_chosen : pick (is_chosen (mark f j)) e ≡ pos 0 = ap (λ m. pick (is_chosen m) e) was in
    let was_credit : pick (is_undecided (mark f j)) (int_max (pos 0) e) ≡ int_max (pos 0) e = ap (λ m. pick (is_undecided m) (int_max (pos 0) e)) was in
    let less : (held p (set f j Chosen) l +ℤ credits p (set f j Chosen) l) ≤ℤ (held p f l +ℤ credits p f l) = omega (arith, ints, clamps, h, c, was_chosen, was_credit) in
    let still : is_short p (set f j Chosen) l ≡ true = lower (held p (set f j Chosen) l +ℤ credits p (set f j Chosen) l) (held p f l +ℤ credits p f l) less short in
    let barred : is_barred p f j l ≡ true = and_from (is_undecided (mark f j)) (is_short p (set f j Chosen) l) undecided still in
    ap (λ b. not b && not (is_needed p f j l)) barred
  where
    lower : (a b : ℤ) → a ≤ℤ b → lt_z b (pos 0) ≡ true → lt_z a (pos 0) ≡ true
    lower a b less told = grind (arith, ints)

-- what is asked of one place
abbrev pub is_done : Clearing → List Mark → ℕ → Bool
is_done p f j = not (is_safe p f j) && all_below (is_quiet p f j) (length p.lines)

-- where no line is short, its own lines decide
pub own_lines : (p : Clearing) (f : List Mark) (j : ℕ) (d : Effect) (es : List Effect) → length f ≡ length p.items → j < length p.items →
    ((l : ℕ) → l < length p.lines → is_short p f l ≡ false) → AreEffects (length p.lines) es → es ≡ (item_at p j).effects →
    list_all (λ (e : Effect). is_quiet p f j e.line) es ≡ all_below (is_quiet p f j) (length p.lines)
own_lines p f j d es size within long are same =
    let by_lines : Decides (all_below (is_quiet p f j) (length p.lines)) ((l : ℕ) → l < length p.lines → is_quiet p f j l ≡ true) =
    Decides-below_and (is_quiet p f j) (λ l. is_quiet p f j l ≡ true) (all_below (is_quiet p f j)) (λ l. (λ x. x, λ x. x)) refl (λ _. refl) (length p.lines) in
    let by_effects : Decides (list_all (λ (e : Effect). is_quiet p f j e.line) es) (All (λ e. is_quiet p f j e.line ≡ true) es) =
    Decides-by_and (λ (e : Effect). is_quiet p f j e.line) (λ e. is_quiet p f j e.line ≡ true) (list_all (λ (e : Effect). is_quiet p f j e.line))
    (λ e. (λ x. x, λ x. x)) refl (λ _ _. refl) es in
    let there : All (λ (e : Effect). is_quiet p f j e.line ≡ true) es → (l : ℕ) → l < length p.lines → is_quiet p f j l ≡ true =
    λ all l inside. elim (present l d es) as (λ _. is_quiet p f j l ≡ true) [
      | inl none ↦ quiet_line p f j l size within (sym (ap (λ (xs : List Effect). sum_over (on_line l) xs) same) ∙ none) (long l inside)
      | inr found ↦ subst (λ m. is_quiet p f j m ≡ true) found.2 (all found.0 d found.1)
    ] in
    let back : ((l : ℕ) → l < length p.lines → is_quiet p f j l ≡ true) → All (λ (e : Effect). is_quiet p f j e.line ≡ true) es =
    λ all k e below. all (get_or es k e).line (are.in_range k e below) in
    same_from_decides (list_all (λ (e : Effect). is_quiet p f j e.line) es) (all_below (is_quiet p f j) (length p.lines))
    (Decides-like (list_all (λ (e : Effect). is_quiet p f j e.line) es) there back by_effects) by_lines

-- a place that isn't undecided is done with
pub decided_done : (p : Clearing) (f : List Mark) (j : ℕ) → is_undecided (mark f j) ≡ false → is_done p f j ≡ true
decided_done p f j decided =
    let unsafe : is_safe p f j ≡ false = ap (λ b. b && all_below (λ l. not (is_negative (effect p j l)) || is_covered p f l) (length p.lines)) decided in
    let quiet : (l : ℕ) → l < length p.lines → is_quiet p f j l ≡ true = λ l below.
    ap (λ b. not (b && is_short p (set f j Chosen) l) && not (is_undecided (mark f j) && is_short p (set f j Left) l)) decided
    ∙ ap (λ b. not (b && is_short p (set f j Left) l)) decided in
    and_from (not (is_safe p f j)) (all_below (is_quiet p f j) (length p.lines)) (ap not unsafe) (all_below_of (is_quiet p f j) (length p.lines) quiet)

-- a test that doesn't hold below a number fails somewhere
pub all_below_finds : (test : ℕ → Bool) (n : ℕ) → all_below test n ≡ false → (k : ℕ) × (k < n) × (test k ≡ false)
all_below_finds test zero told = absurd (cc)
all_below_finds test (suc n) told = elim (and_cases (test n) (all_below test n) told) as (λ _. (k : ℕ) × (k < suc n) × (test k ≡ false)) [
  | inl here ↦ (n, omega arith, here)
  | inr before ↦
      let found = all_below_finds test n before in
      (found.0, omega (arith, found.1), found.2)
]

-- where some line is short, nothing is left to fix exactly where no member is undecided
pub short_reduced : (p : Clearing) (f : List Mark) → length f ≡ length p.items →
    not (all_below (λ l. not (is_short p f l)) (length p.lines)) ≡ true → not (is_open p f) ≡ is_reduced p f
unfolding is_open is_reduced
short_reduced p f size short =
    let line = all_below_finds (λ l. not (is_short p f l)) (length p.lines) (not-true (all_below (λ l. not (is_short p f l)) (length p.lines)) short) in
    let told : is_short p f line.0 ≡ true = not-false (is_short p f line.0) line.2 in
    elim (cases_Bool (all_below (λ j. not (is_undecided (mark f j))) (length p.items))) as (λ _. not (not (all_below (λ j. not (is_undecided (mark f j))) (length p.items))) ≡ all_below (is_done p f) (length p.items)) [
      | inl none ↦
          ap (λ b. not (not b)) none
          ∙ sym (all_below_of (is_done p f) (length p.items) (λ j below. decided_done p f j
          (not-true (is_undecided (mark f j)) (all_below_at (λ i. not (is_undecided (mark f i))) (length p.items) j none below))))
      | inr some ↦
          let place = all_below_finds (λ j. not (is_undecided (mark f j))) (length p.items) some in
          let undecided : is_undecided (mark f place.0) ≡ true = not-false (is_undecided (mark f place.0)) place.2 in
          let unquiet : all_below (is_quiet p f place.0) (length p.lines) ≡ false =
          all_below_fails (is_quiet p f place.0) (length p.lines) line.0 (short_bars p f place.0 line.0 size place.1 undecided told) line.1 in
          ap (λ b. not (not b)) some
          ∙ sym (all_below_fails (is_done p f) (length p.items) place.0 (and_right (not (is_safe p f place.0)) (all_below (is_quiet p f place.0) (length p.lines)) unquiet) place.1)
    ]

-- no line is short where that was looked for in vain
pub none_short : (p : Clearing) (f : List Mark) → not (all_below (λ l. not (is_short p f l)) (length p.lines)) ≡ false →
    (l : ℕ) → l < length p.lines → is_short p f l ≡ false
none_short p f told l below = not-true (is_short p f l)
    (all_below_at (λ k. not (is_short p f k)) (length p.lines) l (not-false (all_below (λ k. not (is_short p f k)) (length p.lines)) told) below)
