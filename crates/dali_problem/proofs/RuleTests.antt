use Rattle.std.proofs.Common.{◌≡◌, ◌≢◌, inl, inr, ◌⊎◌, ℕ, suc, ◌+◌, ◌<◌, ℤ, pos, ◌+ℤ◌, ◌-ℤ◌, Bool, true, not, ◌&&◌, ◌||◌, List, [], ◌∷◌, length, take, get_or, set, refl, ap, sym, ◌∙◌, subst, arith}
use Rattle.std.specs.Bool.{Decides}
use Rattle.std.specs.List.{All, list_all}
use Rattle.std.specs.Int.{int_max, int_min}
use Rattle.std.proofs.lemmas.Bool.Decides.{eqb_tells, same_from_decides, Decides-below_and, Decides-by_and, Decides-like}
use Rattle.std.proofs.lemmas.Int.{ints, clamps}
use Rattle.std.proofs.lemmas.List.Elements.{All-from_get_or}
use Rattle.dali_problem.specs.declared.row.Effect.{Effect}
use Rattle.dali_problem.specs.declared.mark.Mark.{Mark}
use Rattle.dali_problem.specs.declared.mark.Mark.TheVariants.{Stranger, Undecided, Chosen, Left}
use Rattle.dali_problem.specs.Sums.{sum_over, pick}
use Rattle.dali_problem.specs.Clearing.{Clearing, item_at, effect, on_line}
use Rattle.dali_problem.specs.Limits.{AreEffects}
use Rattle.dali_problem.specs.Partial.{mark, is_chosen, is_undecided, held}
use Rattle.dali_problem.specs.Rules.{is_negative, credits, is_short, is_barred, is_needed, is_covered, all_below, is_safe}
use Rattle.dali_problem.specs.Kept.{Kept, IsOf, sum_at, pays}
use Rattle.dali_problem.proofs.SumLaws.{sum_over_more}
use Rattle.dali_problem.proofs.Lines.{on_other}
use Rattle.dali_problem.proofs.Turned.{held_turned, credits_turned, one_on_line}

pub undecided_is : (m : Mark) → is_undecided m ≡ true → m ≡ Undecided
undecided_is Undecided told = refl
undecided_is Stranger told = absurd (cc)
undecided_is Chosen told = absurd (cc)
undecided_is Left told = absurd (cc)

-- the test of a kept line is the test from scratch
pub short_is : (p : Clearing) (k : Kept) (l : ℕ) → IsOf p k → l < length p.lines →
    is_negative ((sum_at k.sums l).held +ℤ (sum_at k.sums l).credits) ≡ is_short p k.marks l
short_is p k l of within =
    ap (λ (z : ℤ). is_negative (z +ℤ (sum_at k.sums l).credits)) (of.held l within)
    ∙ ap (λ (z : ℤ). is_negative (held p k.marks l +ℤ z)) (of.credits l within)

-- with an undecided place chosen, and with it left
pub barred_is : (p : Clearing) (k : Kept) (j l : ℕ) (a : ℤ) → IsOf p k → l < length p.lines → j < length p.items →
    is_undecided (mark k.marks j) ≡ true → a ≡ effect p j l →
    is_negative ((sum_at k.sums l).held +ℤ (sum_at k.sums l).credits +ℤ int_min (pos 0) a) ≡ is_barred p k.marks j l
barred_is p k j l a of within inside told amount =
    let e : ℤ = effect p j l in
    let undecided : mark k.marks j ≡ Undecided = undecided_is (mark k.marks j) told in
    let h = held_turned p k.marks j l Chosen of.marks inside in
    let c = credits_turned p k.marks j l Chosen of.marks inside in
    let was_chosen : pick (is_chosen (mark k.marks j)) e ≡ pos 0 = ap (λ m. pick (is_chosen m) e) undecided in
    let was_undecided : pick (is_undecided (mark k.marks j)) (int_max (pos 0) e) ≡ int_max (pos 0) e =
    ap (λ m. pick (is_undecided m) (int_max (pos 0) e)) undecided in
    let a1 : (sum_at k.sums l).held ≡ held p k.marks l = of.held l within in
    let a2 : (sum_at k.sums l).credits ≡ credits p k.marks l = of.credits l within in
    let part : int_min (pos 0) a ≡ int_min (pos 0) e = ap (int_min (pos 0)) amount in
    let sum : (sum_at k.sums l).held +ℤ (sum_at k.sums l).credits +ℤ int_min (pos 0) a
    ≡ held p (set k.marks j Chosen) l +ℤ credits p (set k.marks j Chosen) l = omega (arith, ints, clamps, h, c) in
    let short : is_negative ((sum_at k.sums l).held +ℤ (sum_at k.sums l).credits +ℤ int_min (pos 0) a) ≡ is_short p (set k.marks j Chosen) l =
    ap is_negative sum in
    short ∙ sym (ap (λ b. b && is_short p (set k.marks j Chosen) l) told)

pub needed_is : (p : Clearing) (k : Kept) (j l : ℕ) (a : ℤ) → IsOf p k → l < length p.lines → j < length p.items →
    is_undecided (mark k.marks j) ≡ true → a ≡ effect p j l →
    is_negative ((sum_at k.sums l).held +ℤ (sum_at k.sums l).credits -ℤ int_max (pos 0) a) ≡ is_needed p k.marks j l
needed_is p k j l a of within inside told amount =
    let e : ℤ = effect p j l in
    let undecided : mark k.marks j ≡ Undecided = undecided_is (mark k.marks j) told in
    let h = held_turned p k.marks j l Left of.marks inside in
    let c = credits_turned p k.marks j l Left of.marks inside in
    let was_chosen : pick (is_chosen (mark k.marks j)) e ≡ pos 0 = ap (λ m. pick (is_chosen m) e) undecided in
    let was_undecided : pick (is_undecided (mark k.marks j)) (int_max (pos 0) e) ≡ int_max (pos 0) e =
    ap (λ m. pick (is_undecided m) (int_max (pos 0) e)) undecided in
    let a1 : (sum_at k.sums l).held ≡ held p k.marks l = of.held l within in
    let a2 : (sum_at k.sums l).credits ≡ credits p k.marks l = of.credits l within in
    let part : int_max (pos 0) a ≡ int_max (pos 0) e = ap (int_max (pos 0)) amount in
    let sum : (sum_at k.sums l).held +ℤ (sum_at k.sums l).credits -ℤ int_max (pos 0) a
    ≡ held p (set k.marks j Left) l +ℤ credits p (set k.marks j Left) l = omega (arith, ints, clamps, h, c) in
    let short : is_negative ((sum_at k.sums l).held +ℤ (sum_at k.sums l).credits -ℤ int_max (pos 0) a) ≡ is_short p (set k.marks j Left) l =
    ap is_negative sum in
    short ∙ sym (ap (λ b. b && is_short p (set k.marks j Left) l) told)

-- a line is changed by one of the effects, or not at all
pub present : (l : ℕ) (d : Effect) (es : List Effect) →
    (sum_over (on_line l) es ≡ pos 0) ⊎ ((i : ℕ) × (i < length es) × ((get_or es i d).line ≡ l))
present l d [] = inl refl
present l d (e ∷ es) = elim (eqb_tells e.line l) as (λ _. (sum_over (on_line l) (e ∷ es) ≡ pos 0) ⊎ ((i : ℕ) × (i < length (e ∷ es)) × ((get_or (e ∷ es) i d).line ≡ l))) [
  | inl same ↦ inr (0, omega arith, same.1)
  | inr other ↦ elim (present l d es) as (λ _. (sum_over (on_line l) (e ∷ es) ≡ pos 0) ⊎ ((i : ℕ) × (i < length (e ∷ es)) × ((get_or (e ∷ es) i d).line ≡ l))) [
    | inl none ↦
        let here : on_line l e ≡ pos 0 = ap (λ b. pick b e.amount) other.0 in
        inl (omega (arith, ints))
    | inr found ↦ inr (suc found.0, omega (arith, found.1), found.2)
  ]
]

-- the test of a place's effects is the test of each line that it debits
pub safe_is : (p : Clearing) (k : Kept) (j : ℕ) (d : Effect) (es : List Effect) → IsOf p k → AreEffects (length p.lines) es →
    es ≡ (item_at p j).effects →
    list_all (pays k.sums) es ≡ all_below (λ l. not (is_negative (effect p j l)) || is_covered p k.marks l) (length p.lines)
safe_is p k j d es of are same =
    let test : ℕ → Bool = λ (l : ℕ). not (is_negative (effect p j l)) || is_covered p k.marks l in
    let whole : (l : ℕ) → sum_over (on_line l) es ≡ effect p j l = λ l. ap (λ (xs : List Effect). sum_over (on_line l) xs) same in
    let covered : (l : ℕ) → l < length p.lines → not (is_negative ((sum_at k.sums l).held +ℤ (sum_at k.sums l).debits)) ≡ is_covered p k.marks l =
    λ l within. ap (λ (z : ℤ). not (is_negative (z +ℤ (sum_at k.sums l).debits))) (of.held l within)
    ∙ ap (λ (z : ℤ). not (is_negative (held p k.marks l +ℤ z))) (of.debits l within) in
    let at : (i : ℕ) → i < length es → pays k.sums (get_or es i d) ≡ test (get_or es i d).line =
    λ i within.
    ap (λ (z : ℤ). not (is_negative z) || not (is_negative ((sum_at k.sums (get_or es i d).line).held +ℤ (sum_at k.sums (get_or es i d).line).debits)))
    (sym (one_on_line es i d are.rising within) ∙ whole (get_or es i d).line)
    ∙ ap (λ (b : Bool). not (is_negative (effect p j (get_or es i d).line)) || b) (covered (get_or es i d).line (are.in_range i d within)) in
    let by_lines : Decides (all_below test (length p.lines)) ((l : ℕ) → l < length p.lines → test l ≡ true) =
    Decides-below_and test (λ l. test l ≡ true) (all_below test) (λ l. (λ x. x, λ x. x)) refl (λ _. refl) (length p.lines) in
    let by_effects : Decides (list_all (pays k.sums) es) (All (λ e. pays k.sums e ≡ true) es) =
    Decides-by_and (pays k.sums) (λ e. pays k.sums e ≡ true) (list_all (pays k.sums)) (λ e. (λ x. x, λ x. x)) refl (λ _ _. refl) es in
    let there : All (λ e. pays k.sums e ≡ true) es → (l : ℕ) → l < length p.lines → test l ≡ true =
    λ all l within. elim (present l d es) as (λ _. test l ≡ true) [
      | inl none ↦ ap (λ (z : ℤ). not (is_negative z) || is_covered p k.marks l) (sym (whole l) ∙ none)
      | inr found ↦ subst (λ m. test m ≡ true) found.2 (sym (at found.0 found.1) ∙ all found.0 d found.1)
    ] in
    let back : ((l : ℕ) → l < length p.lines → test l ≡ true) → All (λ e. pays k.sums e ≡ true) es =
    λ all. All-from_get_or (λ e. pays k.sums e ≡ true) es d (λ i within. at i within ∙ all (get_or es i d).line (are.in_range i d within)) in
    same_from_decides (list_all (pays k.sums) es) (all_below test (length p.lines))
    (Decides-like (list_all (pays k.sums) es) there back by_effects) by_lines

pub safe_told : (p : Clearing) (k : Kept) (j : ℕ) (d : Effect) (es : List Effect) → IsOf p k → AreEffects (length p.lines) es →
    es ≡ (item_at p j).effects → is_undecided (mark k.marks j) ≡ true → list_all (pays k.sums) es ≡ is_safe p k.marks j
safe_told p k j d es of are same told =
    safe_is p k j d es of are same
    ∙ sym (ap (λ b. b && all_below (λ l. not (is_negative (effect p j l)) || is_covered p k.marks l) (length p.lines)) told)

pub same_sign : (x y : ℤ) → x ≡ y → is_negative x ≡ is_negative y
same_sign x y e = ap is_negative e

-- one effect more, on another line or on this one
pub amount_step : (l i : ℕ) (d : Effect) (es : List Effect) → i < length es → (get_or es i d).line ≢ l →
    sum_over (on_line l) (take i es) ≡ pos 0 → sum_over (on_line l) (take (i + 1) es) ≡ pos 0
amount_step l i d es within other before =
    let more : sum_over (on_line l) (take (i + 1) es) ≡ sum_over (on_line l) (take i es) +ℤ on_line l (get_or es i d) =
    sum_over_more (on_line l) es i d within in
    let here : on_line l (get_or es i d) ≡ pos 0 = elim (eqb_tells (get_or es i d).line l) as (λ _. on_line l (get_or es i d) ≡ pos 0) [
      | inl same ↦ absurd (other same.1)
      | inr off ↦ on_other (get_or es i d) l off.0
    ] in
    omega (arith, ints)
