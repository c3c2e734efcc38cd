use Rattle.std.proofs.Common.{◌≡◌, ◌≢◌, ◌⊎◌, inl, inr, ℕ, ◌+◌, ◌<◌, ◌≤◌, ℤ, pos, ◌+ℤ◌, ◌≤ℤ◌, Bool, true, false, ◌&&◌, ◌||◌, eqb, ltb, List, length, set, get_or, refl, ap, sym, ◌∙◌, subst, arith}
use Rattle.std.specs.List.{list_any, list_all}
use Rattle.std.specs.Int.{int_max}
use Rattle.std.specs.Int.Signed.{lt_z}
use Rattle.std.proofs.lemmas.Bool.{cases_eq, cases_lt, and_from, and_left, and_parts, lt-ltb, ltb-true, eq-eqb, false_from_ne_true}
use Rattle.std.proofs.lemmas.Int.{ints, clamps}
use Rattle.std.proofs.lemmas.List.{set-set, set-get_or, length-set, get_or-set_same, get_or_past}
use Rattle.std.proofs.lemmas.List.Folds.{list_any_at}
use Rattle.std.proofs.lemmas.List.Sums.{AllPass-from_list_all}
use Rattle.dali_problem.specs.declared.row.Effect.{Effect}
use Rattle.dali_problem.specs.declared.mark.Mark.{Mark}
use Rattle.dali_problem.specs.declared.mark.Mark.TheVariants.{Stranger, Undecided, Chosen, Left}
use Rattle.dali_problem.specs.Sums.{pick}
use Rattle.dali_problem.specs.Clearing.{Clearing, item_at, effect}
use Rattle.dali_problem.specs.Limits.{IsProblem}
use Rattle.dali_problem.specs.Partial.{mark, is_chosen, is_undecided, is_decided, held}
use Rattle.dali_problem.specs.Rules.{is_negative, credits, is_short, is_barred, is_needed, is_safe}
use Rattle.dali_problem.proofs.Opened.{within_decided}
use Rattle.dali_problem.proofs.Turned.{held_turned, credits_turned}
use Rattle.dali_problem.proofs.RuleTests.{present}
use Rattle.dali_tree.specs.declared.fix.Fix.{Fix}
use Rattle.dali_tree.specs.declared.fix.Fix.TheVariants.{Barred, Needed, Safe}
use Rattle.dali_tree.specs.Fits.{fix_fits}
use Rattle.dali_fixes.specs.Fixed.{place_of, holds}
use Rattle.dali_fixes.proofs.Sets.{past_line}
use Rattle.dali_reduce.specs.Reduced.{IsReduced}
use Rattle.dali_reduce.specs.Run.{Waits, IsQuiet, MayTurn, IsSettledBut}
use Rattle.dali_reduce.proofs.Turning.{changes_cases, turn_quiet, turn_unsafe}

-- whether an effect stands on a line
abbrev pub stands_on : List Effect → ℕ → Bool
stands_on es l = list_any (λ (e : Effect). eqb e.line l) es

-- a line that a place changes has an effect of it
pub change_stands : (p : Clearing) (i l : ℕ) → effect p i l ≢ pos 0 → stands_on (item_at p i).effects l ≡ true
change_stands p i l changed =
    let d : Effect = record { line = 0; amount = pos 0 } in
    elim (present l d (item_at p i).effects) as (λ _. stands_on (item_at p i).effects l ≡ true) [
      | inl none ↦ absurd (changed none)
      | inr found ↦ list_any_at (λ (e : Effect). eqb e.line l) (item_at p i).effects found.0 d found.1
          (eq-eqb (get_or (item_at p i).effects found.0 d).line l found.2)
    ]

or_none : (b : Bool) → b ≡ true → (b || false) ≡ true
or_none true told = refl
or_none false told = told

-- the lines that the next fix changes are to be looked at, and it waits no more
pub next_settled : (p : Clearing) (f : List Mark) (fixes : List Fix) (n : ℕ) (d x : Fix) (es : List Effect) → x ≡ get_or fixes n d → n < length fixes →
    es ≡ (item_at p (place_of x)).effects → IsSettledBut p f fixes n (λ _. false) (λ _. false) →
    IsSettledBut p f fixes (n + 1) (λ l. stands_on es l || false) (λ _. false)
next_settled p f fixes n d x es read within same settled = record {
  quiet = (λ l below. elim (settled.quiet l below) as (λ _. ((stands_on es l || false) ≡ true) ⊎ (Waits p fixes (n + 1) l ⊎ IsQuiet p f l)) [
    | inl look ↦ absurd (false_true look)
    | inr rest ↦ elim rest as (λ _. ((stands_on es l || false) ≡ true) ⊎ (Waits p fixes (n + 1) l ⊎ IsQuiet p f l)) [
      | inr quiet ↦ inr (inr quiet)
      | inl waits ↦ elim (later l waits) as (λ _. ((stands_on es l || false) ≡ true) ⊎ (Waits p fixes (n + 1) l ⊎ IsQuiet p f l)) [
        | inl here ↦ inl here
        | inr still ↦ inr (inl still)
      ]
    ]
  ]);
  unsafe = (λ j below. elim (settled.unsafe j below) as (λ _. (false ≡ true) ⊎ ((is_safe p f j ≡ false) ⊎ MayTurn p fixes (n + 1) (λ l. stands_on es l || false) j)) [
    | inl look ↦ absurd (false_true look)
    | inr rest ↦ elim rest as (λ _. (false ≡ true) ⊎ ((is_safe p f j ≡ false) ⊎ MayTurn p fixes (n + 1) (λ l. stands_on es l || false) j)) [
      | inl stays ↦ inr (inl stays)
      | inr may ↦ elim may.looked as (λ _. (false ≡ true) ⊎ ((is_safe p f j ≡ false) ⊎ MayTurn p fixes (n + 1) (λ l. stands_on es l || false) j)) [
        | inl look ↦ absurd (false_true look)
        | inr waits ↦ inr (inr (record { line = may.line; debited = may.debited; looked = later may.line waits }))
      ]
    ]
  ]);
}
  where
    false_true : false ≡ true → ⊥
    false_true is = cc

    later : (l : ℕ) → Waits p fixes n l → ((stands_on es l || false) ≡ true) ⊎ Waits p fixes (n + 1) l
    later l waits = elim (cases_eq waits.number n) as (λ _. ((stands_on es l || false) ≡ true) ⊎ Waits p fixes (n + 1) l) [
      | inr other ↦ inr (record { number = waits.number; since = omega (arith, waits.since, other); within = waits.within; changed = waits.changed })
      | inl here ↦
          let is : get_or fixes waits.number d ≡ x = ap (λ k. get_or fixes k d) here ∙ sym read in
          let changed : effect p (place_of x) l ≢ pos 0 = subst (λ (y : Fix). effect p (place_of y) l ≢ pos 0) is (waits.changed d) in
          inl (or_none (stands_on es l) (ap (λ (ys : List Effect). stands_on ys l) same ∙ change_stands p (place_of x) l changed))
    ]

-- the place of a fix that fits is in range
pub fits_place : (items lines : ℕ) (x : Fix) → fix_fits items lines x ≡ true → place_of x < items
fits_place items lines (Barred j l) fits = ltb-true j items (and_parts (ltb j items) (ltb l lines) fits).0
fits_place items lines (Needed j l) fits = ltb-true j items (and_parts (ltb j items) (ltb l lines) fits).0
fits_place items lines (Safe j) fits = ltb-true j items fits

pub place_fits : (items lines : ℕ) (fixes : List Fix) (n : ℕ) (d : Fix) → list_all (fix_fits items lines) fixes ≡ true → n < length fixes →
    place_of (get_or fixes n d) < items
place_fits items lines fixes n d all within =
    fits_place items lines (get_or fixes n d) (AllPass-from_list_all (fix_fits items lines) fixes all n d within)

-- an undecided place is barred from a short line
short_bars : (p : Clearing) (f : List Mark) (j l : ℕ) → length f ≡ length p.items → j < length p.items →
    mark f j ≡ Undecided → is_short p f l ≡ true → is_barred p f j l ≡ true
short_bars p f j l size within was short =
    let e : ℤ = effect p j l in
    let h = held_turned p f j l Chosen size within in
    let c = credits_turned p f j l Chosen size within in
    let was_chosen : pick (is_chosen (mark f j)) e ≡ pos 0 = ap (λ m. pick (is_chosen m) e) was in
    let was_credit : pick (is_undecided (mark f j)) (int_max (pos 0) e) ≡ int_max (pos 0) e = ap (λ m. pick (is_undecided m) (int_max (pos 0) e)) was in
    let less : (held p (set f j Chosen) l +ℤ credits p (set f j Chosen) l) ≤ℤ (held p f l +ℤ credits p f l) = omega (arith, ints, clamps, h, c, was_chosen, was_credit) in
    and_from (is_undecided (mark f j)) (is_short p (set f j Chosen) l) (ap is_undecided was)
    (lower (held p (set f j Chosen) l +ℤ credits p (set f j Chosen) l) (held p f l +ℤ credits p f l) less short)
  where
    lower : (a b : ℤ) → a ≤ℤ b → lt_z b (pos 0) ≡ true → lt_z a (pos 0) ≡ true
    lower a b less told = grind (arith, ints)

-- where nothing was left to fix but for an undecided place, every line is quiet
quiet_before : (p : Clearing) (f : List Mark) (i l : ℕ) → length f ≡ length p.items → i < length p.items → mark f i ≡ Undecided → l < length p.lines →
    IsReduced p f → IsQuiet p f l
unfolding holds
quiet_before p f i l size within was below reduced = record {
  long = (false_from_ne_true (is_short p f l) (λ short. true_false (sym (short_bars p f i l size within was short)
      ∙ reduced.none (Barred i l) (both i within))));
  barred = (λ j. elim (cases_lt j (length p.items)) as (λ _. is_barred p f j l ≡ false) [
    | inl inside ↦ reduced.none (Barred j l) (both j inside)
    | inr past ↦ and_left (is_undecided (mark f j)) (is_short p (set f j Chosen) l) (outside j past)
  ]);
  needed = (λ j. elim (cases_lt j (length p.items)) as (λ _. is_needed p f j l ≡ false) [
    | inl inside ↦ reduced.none (Needed j l) (both j inside)
    | inr past ↦ and_left (is_undecided (mark f j)) (is_short p (set f j Left) l) (outside j past)
  ]);
}
  where
    true_false : true ≡ false → ⊥
    true_false is = cc

    both : (j : ℕ) → j < length p.items → (ltb j (length p.items) && ltb l (length p.lines)) ≡ true
    both j inside = and_from (ltb j (length p.items)) (ltb l (length p.lines)) (lt-ltb j (length p.items) inside) (lt-ltb l (length p.lines) below)

    outside : (j : ℕ) → length p.items ≤ j → is_undecided (mark f j) ≡ false
    outside j past = ap is_undecided (get_or_past f j Stranger (omega (arith, size, past)))

decided_not : (m : Mark) → is_decided m ≡ true → is_undecided m ≡ false
decided_not Chosen told = refl
decided_not Left told = refl
decided_not Stranger told = absurd (cc)
decided_not Undecided told = absurd (cc)

-- where nothing was left to fix before a place was decided, its lines alone are to be looked at
pub reduced_settled : (p : Clearing) (f : List Mark) (fixes : List Fix) (i : ℕ) (es : List Effect) → length f ≡ length p.items → is_decided (mark f i) ≡ true →
    es ≡ (item_at p i).effects → IsReduced p (set f i Undecided) → IsSettledBut p f fixes 0 (λ l. stands_on es l || false) (λ _. false)
unfolding holds
reduced_settled p f fixes i es size decided same reduced =
    let inside : i < length f = within_decided f i decided in
    let within : i < length p.items = omega (arith, inside, size) in
    let h : List Mark = set f i Undecided in
    let h_size : length h ≡ length p.items = length-set f i Undecided ∙ size in
    let was : mark h i ≡ Undecided = get_or-set_same f i Undecided Stranger inside in
    let back : set h i (mark f i) ≡ f = set-set f i Undecided (mark f i) ∙ set-get_or f i Stranger in
    let off : is_undecided (mark f i) ≡ false = decided_not (mark f i) decided in
    record {
      quiet = (λ l below. elim (changes_cases p i l) as (λ _. ((stands_on es l || false) ≡ true) ⊎ (Waits p fixes 0 l ⊎ IsQuiet p f l)) [
        | inl none ↦ inr (inr (subst (λ (k : List Mark). IsQuiet p k l) back
            (turn_quiet p h i l (mark f i) h_size within off none (quiet_before p h i l h_size within was below reduced))))
        | inr changed ↦ inl (looks l changed)
      ]);
      unsafe = (λ j below. elim (turn_unsafe p h i j (mark f i) h_size within off (reduced.none (Safe j) (lt-ltb j (length p.items) below)))
          as (λ _. (false ≡ true) ⊎ ((is_safe p f j ≡ false) ⊎ MayTurn p fixes 0 (λ l. stands_on es l || false) j)) [
            | inl still ↦ inr (inl (subst (λ (k : List Mark). is_safe p k j ≡ false) back still))
            | inr meets ↦ inr (inr (record { line = meets.line; debited = meets.debited; looked = inl (looks meets.line meets.changed) }))
          ]);
    }
  where
    looks : (l : ℕ) → effect p i l ≢ pos 0 → (stands_on es l || false) ≡ true
    looks l changed = or_none (stands_on es l) (ap (λ (ys : List Effect). stands_on ys l) same ∙ change_stands p i l changed)

-- a line that is debited is in range
pub debit_within : (p : Clearing) (j l : ℕ) → IsProblem p → is_negative (effect p j l) ≡ true → l < length p.lines
debit_within p j l limits debited = elim (cases_lt l (length p.lines)) as (λ _. l < length p.lines) [
  | inl within ↦ within
  | inr past ↦ absurd (true_false (sym debited ∙ ap is_negative (past_line p j l limits past)))
]
  where
    true_false : true ≡ false → ⊥
    true_false is = cc
