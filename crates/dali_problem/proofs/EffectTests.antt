use Rattle.std.proofs.Common.{◌≡◌, ℕ, suc, ◌<◌, Bool, true, false, not, ◌&&◌, ◌||◌, List, [], ◌∷◌, length, get_or, set, refl, ap, sym, ◌∙◌, arith}
use Rattle.std.specs.List.{list_all}
use Rattle.dali_problem.specs.declared.row.Effect.{Effect}
use Rattle.dali_problem.specs.declared.mark.Mark.TheVariants.{Chosen, Left}
use Rattle.dali_problem.specs.Sums.{sum_over}
use Rattle.dali_problem.specs.Clearing.{Clearing, item_at, effect, on_line}
use Rattle.dali_problem.specs.Limits.{AreEffects}
use Rattle.dali_problem.specs.Partial.{mark, is_undecided}
use Rattle.dali_problem.specs.Rules.{is_negative, is_short, is_barred, is_needed}
use Rattle.dali_problem.specs.Kept.{Kept, IsOf, bears_chosen, bears_left, bears, is_quiet}
use Rattle.dali_problem.proofs.Turned.{one_on_line}
use Rattle.dali_problem.proofs.RuleTests.{barred_is, needed_is}

list_all_same : {X : Type 0} (f g : X → Bool) (xs : List X) (d : X) → ((i : ℕ) → i < length xs → f (get_or xs i d) ≡ g (get_or xs i d)) →
    list_all f xs ≡ list_all g xs
list_all_same f g [] d same = refl
list_all_same f g (x ∷ xs) d same =
    ap (λ b. b && list_all f xs) (same 0 (omega arith))
    ∙ ap (λ b. g x && b) (list_all_same f g xs d (λ i below. same (suc i) (omega (arith, below))))

list_all_true : {X : Type 0} (f : X → Bool) (xs : List X) → ((x : X) → f x ≡ true) → list_all f xs ≡ true
list_all_true f [] all = refl
list_all_true f (x ∷ xs) all = ap (λ b. b && list_all f xs) (all x) ∙ list_all_true f xs all

-- an effect's amount is what its place changes the line by
own_amount : (p : Clearing) (j i : ℕ) (d : Effect) (es : List Effect) → AreEffects (length p.lines) es → es ≡ (item_at p j).effects →
    i < length es → (get_or es i d).amount ≡ effect p j (get_or es i d).line
own_amount p j i d es are same within =
    sym (one_on_line es i d are.rising within) ∙ ap (λ (xs : List Effect). sum_over (on_line (get_or es i d).line) xs) same

chosen_is : (p : Clearing) (k : Kept) (j i : ℕ) (d : Effect) (es : List Effect) → IsOf p k → j < length p.items → AreEffects (length p.lines) es →
    es ≡ (item_at p j).effects → is_undecided (mark k.marks j) ≡ true → i < length es →
    bears_chosen k.sums (get_or es i d) ≡ not (is_barred p k.marks j (get_or es i d).line)
chosen_is p k j i d es of inside are same told within =
    ap not (barred_is p k j (get_or es i d).line (get_or es i d).amount of (are.in_range i d within) inside told (own_amount p j i d es are same within))

left_is : (p : Clearing) (k : Kept) (j i : ℕ) (d : Effect) (es : List Effect) → IsOf p k → j < length p.items → AreEffects (length p.lines) es →
    es ≡ (item_at p j).effects → is_undecided (mark k.marks j) ≡ true → i < length es →
    bears_left k.sums (get_or es i d) ≡ not (is_needed p k.marks j (get_or es i d).line)
left_is p k j i d es of inside are same told within =
    ap not (needed_is p k j (get_or es i d).line (get_or es i d).amount of (are.in_range i d within) inside told (own_amount p j i d es are same within))

-- the tests of a place's effects, each by its own amount, are those of its lines
pub bears_is : (p : Clearing) (k : Kept) (j : ℕ) (d : Effect) (es : List Effect) → IsOf p k → j < length p.items → AreEffects (length p.lines) es →
    es ≡ (item_at p j).effects → is_undecided (mark k.marks j) ≡ true →
    list_all (bears k.sums) es ≡ list_all (λ (e : Effect). not (is_negative e.amount) || not (is_barred p k.marks j e.line)) (item_at p j).effects
bears_is p k j d es of inside are same told =
    list_all_same (bears k.sums) (λ (e : Effect). not (is_negative e.amount) || not (is_barred p k.marks j e.line)) es d
    (λ i within. ap (λ b. not (is_negative (get_or es i d).amount) || b) (chosen_is p k j i d es of inside are same told within))
    ∙ ap (list_all (λ (e : Effect). not (is_negative e.amount) || not (is_barred p k.marks j e.line))) same

pub quiet_is : (p : Clearing) (k : Kept) (j : ℕ) (d : Effect) (es : List Effect) → IsOf p k → j < length p.items → AreEffects (length p.lines) es →
    es ≡ (item_at p j).effects → is_undecided (mark k.marks j) ≡ true →
    list_all (is_quiet k.sums) es ≡ list_all (λ (e : Effect). not (is_barred p k.marks j e.line) && not (is_needed p k.marks j e.line)) (item_at p j).effects
quiet_is p k j d es of inside are same told =
    list_all_same (is_quiet k.sums) (λ (e : Effect). not (is_barred p k.marks j e.line) && not (is_needed p k.marks j e.line)) es d
    (λ i within. ap (λ b. b && bears_left k.sums (get_or es i d)) (chosen_is p k j i d es of inside are same told within)
    ∙ ap (λ b. not (is_barred p k.marks j (get_or es i d).line) && b) (left_is p k j i d es of inside are same told within))
    ∙ ap (list_all (λ (e : Effect). not (is_barred p k.marks j e.line) && not (is_needed p k.marks j e.line))) same

-- a place that isn't undecided is neither barred nor needed
pub bears_decided : (p : Clearing) (k : Kept) (j : ℕ) (es : List Effect) → is_undecided (mark k.marks j) ≡ false →
    list_all (λ (e : Effect). not (is_negative e.amount) || not (is_barred p k.marks j e.line)) es ≡ true
bears_decided p k j es told = list_all_true (λ (e : Effect). not (is_negative e.amount) || not (is_barred p k.marks j e.line)) es
    (λ e. ap (λ b. not (is_negative e.amount) || not (b && is_short p (set k.marks j Chosen) e.line)) told ∙ or_true (not (is_negative e.amount)))
  where
    or_true : (b : Bool) → (b || true) ≡ true
    or_true true = refl
    or_true false = refl

pub quiet_decided : (p : Clearing) (k : Kept) (j : ℕ) (es : List Effect) → is_undecided (mark k.marks j) ≡ false →
    list_all (λ (e : Effect). not (is_barred p k.marks j e.line) && not (is_needed p k.marks j e.line)) es ≡ true
quiet_decided p k j es told = list_all_true (λ (e : Effect). not (is_barred p k.marks j e.line) && not (is_needed p k.marks j e.line)) es
    (λ e. ap (λ b. not (b && is_short p (set k.marks j Chosen) e.line) && not (is_undecided (mark k.marks j) && is_short p (set k.marks j Left) e.line)) told
    ∙ ap (λ b. not (b && is_short p (set k.marks j Left) e.line)) told)
