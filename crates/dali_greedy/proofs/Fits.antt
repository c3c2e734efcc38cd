use Rattle.std.proofs.Common.{◌≡◌, inl, inr, ℕ, ◌<◌, pos, ◌+ℤ◌, ◌-ℤ◌, ◌≤ℤ◌, Bool, true, false, not, List, length, get_or, set, refl, ap, ◌∙◌, subst, arith}
use Rattle.std.specs.Bool.{Decides}
use Rattle.std.specs.List.{All, list_all}
use Rattle.std.proofs.lemmas.Bool.Decides.{Decides-by_and}
use Rattle.std.proofs.lemmas.Int.{ints}
use Rattle.dali_problem.specs.declared.row.Effect.{Effect}
use Rattle.dali_problem.specs.declared.mark.Mark.{Mark}
use Rattle.dali_problem.specs.declared.mark.Mark.TheVariants.{Chosen, Left}
use Rattle.dali_problem.specs.Clearing.{Clearing, item_at, effect}
use Rattle.dali_problem.specs.Limits.{IsProblem}
use Rattle.dali_problem.specs.Partial.{mark, held}
use Rattle.dali_problem.specs.Rules.{is_negative}
use Rattle.dali_problem.proofs.Lines.{item_limits}
use Rattle.dali_problem.proofs.RuleTests.{present}
use Rattle.dali_problem.proofs.Turned.{one_on_line}
use Rattle.dali_rest.proofs.Marks.{within_left, within_chosen}
use Rattle.dali_rest.proofs.Sides.{nonneg, nonneg_of, held_chosen, held_left}
use Rattle.dali_greedy.specs.Standing.{Standing, IsStandOf, Holds, IsTight}

no_effect : Effect
no_effect = record { line = 0; amount = pos 0 }

-- what each effect of a place changes its line by
pub amount_is : (p : Clearing) (j k : ℕ) (d : Effect) → IsProblem p → j < length p.items → k < length (item_at p j).effects →
    effect p j (get_or (item_at p j).effects k d).line ≡ (get_or (item_at p j).effects k d).amount
amount_is p j k d limits within below =
    one_on_line (item_at p j).effects k d (item_limits p j limits within).effects.rising below

pub line_in : (p : Clearing) (j k : ℕ) (d : Effect) → IsProblem p → j < length p.items → k < length (item_at p j).effects →
    (get_or (item_at p j).effects k d).line < length p.lines
line_in p j k d limits within below = (item_limits p j limits within).effects.in_range k d below

-- a test of a list of effects
not_told : (b : Bool) → not b ≡ true → b ≡ false
not_told true told = absurd (cc told)
not_told false told = refl

not_of : (b : Bool) → b ≡ false → not b ≡ true
not_of b is = ap not is

pub none_of : (test : Effect → Bool) (es : List Effect) → Decides (list_all (λ e. not (test e)) es) (All (λ e. test e ≡ false) es)
none_of test es =
    Decides-by_and (λ e. not (test e)) (λ e. test e ≡ false) (list_all (λ e. not (test e))) (λ e. (not_told (test e), not_of (test e))) refl (λ _ _. refl) es

-- the line of each effect of a place bears it exactly where no line is negative with the place chosen, if none is that the
-- place doesn't change
pub bears_holds : (p : Clearing) (k : Standing) (j : ℕ) → IsProblem p → IsStandOf p k → mark k.marks j ≡ Left →
    ((l : ℕ) → l < length p.lines → effect p j l ≡ pos 0 → pos 0 ≤ℤ held p k.marks l) →
    All (λ e. is_negative (get_or k.has e.line (pos 0) +ℤ e.amount) ≡ false) (item_at p j).effects → Holds p (set k.marks j Chosen)
bears_holds p k j limits stand left others own =
    let within : j < length p.items = omega (arith, within_left k.marks j left, stand.marks) in
    record {
      covered = (λ l below.
          let with_j = held_chosen p k.marks j l stand.marks within left in
          elim (present l no_effect (item_at p j).effects) as (λ _. pos 0 ≤ℤ held p (set k.marks j Chosen) l) [
            | inl none ↦ omega (arith, ints, with_j, none, others l below none)
            | inr found ↦
                let amount = amount_is p j found.0 no_effect limits within found.1 in
                let line = line_in p j found.0 no_effect limits within found.1 in
                let has = stand.has (get_or (item_at p j).effects found.0 no_effect).line line in
                let up = nonneg_of (get_or k.has (get_or (item_at p j).effects found.0 no_effect).line (pos 0) +ℤ (get_or (item_at p j).effects found.0 no_effect).amount)
                (own found.0 no_effect found.1) in
                let there : pos 0 ≤ℤ held p (set k.marks j Chosen) (get_or (item_at p j).effects found.0 no_effect).line =
                omega (arith, ints, held_chosen p k.marks j (get_or (item_at p j).effects found.0 no_effect).line stand.marks within left, amount, has, up) in
                subst (λ m. pos 0 ≤ℤ held p (set k.marks j Chosen) m) found.2 there
          ]);
    }

pub bears_of : (p : Clearing) (k : Standing) (j : ℕ) → IsProblem p → IsStandOf p k → mark k.marks j ≡ Left → Holds p (set k.marks j Chosen) →
    All (λ e. is_negative (get_or k.has e.line (pos 0) +ℤ e.amount) ≡ false) (item_at p j).effects
bears_of p k j limits stand left holds = λ i d below.
    let within : j < length p.items = omega (arith, within_left k.marks j left, stand.marks) in
    let l : ℕ = (get_or (item_at p j).effects i d).line in
    let line = line_in p j i d limits within below in
    nonneg (get_or k.has l (pos 0) +ℤ (get_or (item_at p j).effects i d).amount)
    (omega (arith, ints, held_chosen p k.marks j l stand.marks within left, amount_is p j i d limits within below, stand.has l line, holds.covered l line))

-- the same for what lines have already
pub covers_of : (p : Clearing) (k : Standing) (j : ℕ) → IsProblem p → IsStandOf p k → j < length p.items → Holds p k.marks →
    All (λ e. is_negative (get_or k.has e.line (pos 0)) ≡ false) (item_at p j).effects
covers_of p k j limits stand within holds = λ i d below.
    let l : ℕ = (get_or (item_at p j).effects i d).line in
    let line = line_in p j i d limits within below in
    nonneg (get_or k.has l (pos 0)) (omega (arith, ints, stand.has l line, holds.covered l line))

-- a line that can't bear the effect of a place
pub tight_line : (p : Clearing) (k : Standing) (j : ℕ) (e : Effect) → IsProblem p → j < length p.items → IsTight p k j e →
    (e.line < length p.lines) × (effect p j e.line ≡ e.amount)
tight_line p k j e limits within tight = (
  subst (λ (x : Effect). x.line < length p.lines) tight.effect.2 (line_in p j tight.effect.0 e limits within tight.effect.1),
  subst (λ (x : Effect). effect p j x.line ≡ x.amount) tight.effect.2 (amount_is p j tight.effect.0 e limits within tight.effect.1),
)

pub tight_fails : (p : Clearing) (k : Standing) (j : ℕ) (e : Effect) → IsProblem p → IsStandOf p k → mark k.marks j ≡ Left → IsTight p k j e →
    ¬ (Holds p (set k.marks j Chosen))
tight_fails p k j e limits stand left tight holds =
    let fine : is_negative (get_or k.has e.line (pos 0) +ℤ e.amount) ≡ false =
    subst (λ (x : Effect). is_negative (get_or k.has x.line (pos 0) +ℤ x.amount) ≡ false) tight.effect.2
    (bears_of p k j limits stand left holds tight.effect.0 e tight.effect.1) in
    let tells = tight.negative in
    absurd (cc (fine, tells))

-- an exchange that works
pub exchange_holds : (p : Clearing) (k m n : Standing) (i j : ℕ) → IsProblem p → IsStandOf p k → IsStandOf p m → IsStandOf p n → Holds p k.marks →
    mark k.marks i ≡ Chosen → m.marks ≡ set k.marks i Left → mark m.marks j ≡ Left → n.marks ≡ set m.marks j Chosen →
    All (λ e. is_negative (get_or m.has e.line (pos 0) +ℤ e.amount) ≡ false) (item_at p j).effects →
    All (λ e. is_negative (get_or n.has e.line (pos 0)) ≡ false) (item_at p i).effects → Holds p n.marks
exchange_holds p k m n i j limits of_k of_m of_n holds chosen to_m left to_n bears covers =
    let within : i < length p.items = omega (arith, within_chosen k.marks i chosen, of_k.marks) in
    let inside : j < length p.items = omega (arith, within_left m.marks j left, of_m.marks) in
    record {
      covered = (λ l below.
          let first : held p m.marks l ≡ held p k.marks l -ℤ effect p i l = ap (λ (g : List Mark). held p g l) to_m ∙ held_left p k.marks i l of_k.marks within chosen in
          let second : held p n.marks l ≡ held p m.marks l +ℤ effect p j l = ap (λ (g : List Mark). held p g l) to_n ∙ held_chosen p m.marks j l of_m.marks inside left in
          elim (present l no_effect (item_at p j).effects) as (λ _. pos 0 ≤ℤ held p n.marks l) [
            | inr found ↦
                let a : ℕ = (get_or (item_at p j).effects found.0 no_effect).line in
                let there : a ≡ l = found.2 in
                let line = line_in p j found.0 no_effect limits inside found.1 in
                let up = nonneg_of (get_or m.has a (pos 0) +ℤ (get_or (item_at p j).effects found.0 no_effect).amount) (bears found.0 no_effect found.1) in
                let at : held p n.marks a ≡ held p m.marks a +ℤ effect p j a = ap (λ (g : List Mark). held p g a) to_n ∙ held_chosen p m.marks j a of_m.marks inside left in
                let fine : pos 0 ≤ℤ held p n.marks a = omega (arith, ints, at, amount_is p j found.0 no_effect limits inside found.1, of_m.has a line, up) in
                subst (λ b. pos 0 ≤ℤ held p n.marks b) there fine
            | inl none ↦ elim (present l no_effect (item_at p i).effects) as (λ _. pos 0 ≤ℤ held p n.marks l) [
              | inr found ↦
                  let a : ℕ = (get_or (item_at p i).effects found.0 no_effect).line in
                  let line = line_in p i found.0 no_effect limits within found.1 in
                  let up = nonneg_of (get_or n.has a (pos 0)) (covers found.0 no_effect found.1) in
                  let fine : pos 0 ≤ℤ held p n.marks a = omega (arith, ints, of_n.has a line, up) in
                  subst (λ b. pos 0 ≤ℤ held p n.marks b) found.2 fine
              | inl neither ↦ omega (arith, ints, first, second, none, neither, holds.covered l below)
            ]
          ]);
    }
