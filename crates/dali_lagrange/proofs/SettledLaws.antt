use Rattle.std.proofs.Common.{◌≡◌, inl, inr, ℕ, zero, suc, ◌+◌, ◌<◌, ◌≤◌, ◌^◌, ℤ, pos, ◌-ℤ◌, ◌*ℤ◌, ◌≤ℤ◌, Bool, true, false, not, ◌&&◌, ◌||◌, List, length, get_or, set, eqb, cond, refl, ap, sym, ◌∙◌, subst, arith}
use Rattle.std.specs.Prelude.{◌<ℤ◌}
use Rattle.std.specs.Bool.{Decides}
use Rattle.std.specs.Int.Signed.{lt_z, le_z}
use Rattle.std.proofs.lemmas.Int.{ints, by_lt_z}
use Rattle.std.proofs.lemmas.Bool.{cases_lt}
use Rattle.std.proofs.lemmas.Bool.Decides.{eqb_tells, Decides-and, Decides-like, Decides-not, Decides-below_and}
use Rattle.std.proofs.lemmas.List.{get_or-set_same, get_or-set_other}
use Rattle.dali_problem.specs.declared.mark.Mark.{Mark}
use Rattle.dali_problem.specs.Clearing.{Clearing}
use Rattle.dali_problem.specs.Rules.{all_below}
use Rattle.dali_lagrange.specs.Best.{sum_with}
use Rattle.dali_lagrange.specs.Bound.{sum_of}
use Rattle.dali_lagrange.specs.Settled.{changed, is_gain, is_still_at, is_settled}
use Rattle.dali_lagrange.specs.Still.{IsGain, IsStillAt, IsStill}
use Rattle.dali_lagrange.proofs.Moved.{sum_same}

pub lt_decides : (a b : ℤ) → Decides (lt_z a b) (a <ℤ b)
lt_decides a b = (λ told. grind (arith, ints), λ less. grind (arith, ints))

pub not_lt : (a b : ℤ) → b ≤ℤ a → lt_z a b ≡ false
not_lt a b le = grind (arith, ints)

pub le_decides : (a b : ℤ) → Decides (le_z a b) (a ≤ℤ b)
le_decides a b = (λ told. grind (arith, ints), λ less. grind (arith, ints))

gain_decides : (old new : ℤ) → Decides (is_gain old new) (IsGain old new)
gain_decides old new = Decides-like {P = (new <ℤ old) × (old ≤ℤ (pos 1024 *ℤ (old -ℤ new)))} {Q = IsGain old new} (is_gain old new)
    (λ both. record { smaller = both.0; enough = both.1 })
    (λ gain. (gain.smaller, gain.enough))
    (Decides-and (lt_z new old) (le_z old (pos 1024 *ℤ (old -ℤ new))) (lt_decides new old) (le_decides old (pos 1024 *ℤ (old -ℤ new))))

-- multipliers that are equal on the lines of the problem, with one changed
changed_same : (lam mu : ℕ → ℕ) (l x k : ℕ) → lam k ≡ mu k → changed lam l x k ≡ changed mu l x k
changed_same lam mu l x k same = ap (λ m. cond (eqb k l) x m) same

all_same : (f g : ℕ → Bool) (n : ℕ) → ((k : ℕ) → f k ≡ g k) → all_below f n ≡ all_below g n
all_same f g zero same = refl
all_same f g (suc n) same = ap (λ b. b && all_below f n) (same n) ∙ ap (λ b. g n && b) (all_same f g n same)

still_at_same : (p : Clearing) (f : List Mark) (lam mu : ℕ → ℕ) (l : ℕ) → ((k : ℕ) → k < length p.lines → lam k ≡ mu k) → is_still_at p f lam l ≡ is_still_at p f mu l
unfolding is_still_at
still_at_same p f lam mu l same =
    all_same (λ x. not (is_gain (sum_of p f lam) (sum_of p f (changed lam l x)))) (λ x. not (is_gain (sum_of p f mu) (sum_of p f (changed mu l x)))) (2 ^ 44 + 1)
    (λ x. ap (λ s. not (is_gain s (sum_of p f (changed lam l x)))) (sum_same p f lam mu same)
    ∙ ap (λ s. not (is_gain (sum_of p f mu) s)) (sum_same p f (changed lam l x) (changed mu l x) (λ k below. changed_same lam mu l x k (same k below))))

-- whether multipliers are settled depends on the lines of the problem alone
pub settled_same : (p : Clearing) (f : List Mark) (lam mu : ℕ → ℕ) → ((k : ℕ) → k < length p.lines → lam k ≡ mu k) → is_settled p f lam ≡ is_settled p f mu
unfolding is_settled
settled_same p f lam mu same =
    ap (λ s. le_z s (sum_of p f (λ _. 0)) && (lt_z s (pos 4096) || all_below (is_still_at p f lam) (length p.lines))) (sum_same p f lam mu same)
    ∙ ap (λ b. le_z (sum_of p f mu) (sum_of p f (λ _. 0)) && (lt_z (sum_of p f mu) (pos 4096) || b))
    (all_same (is_still_at p f lam) (is_still_at p f mu) (length p.lines) (λ l. still_at_same p f lam mu l same))

changed_is_set : (point : List ℕ) (l x k : ℕ) → l < length point → get_or (set point l x) k 0 ≡ changed (λ i. get_or point i 0) l x k
changed_is_set point l x k within = elim (eqb_tells k l) as (λ _. get_or (set point l x) k 0 ≡ changed (λ i. get_or point i 0) l x k) [
  | inl same ↦ ap (λ i. get_or (set point l x) i 0) same.1 ∙ get_or-set_same point l x 0 within ∙ sym (ap (λ b. cond b x (get_or point k 0)) same.0)
  | inr other ↦ get_or-set_other point l k x 0 other.1 ∙ sym (ap (λ b. cond b x (get_or point k 0)) other.0)
]

changed_sum : (p : Clearing) (f : List Mark) (point : List ℕ) (l x : ℕ) → l < length point → sum_with p f point l x ≡ sum_of p f (changed (λ i. get_or point i 0) l x)
unfolding sum_with
changed_sum p f point l x within = sum_same p f (λ k. get_or (set point l x) k 0) (changed (λ i. get_or point i 0) l x) (λ k below. changed_is_set point l x k within)

still_at_decides : (p : Clearing) (f : List Mark) (point : List ℕ) (l : ℕ) → l < length point →
    Decides (is_still_at p f (λ i. get_or point i 0) l) (IsStillAt p f point (sum_of p f (λ i. get_or point i 0)) l)
unfolding is_still_at
still_at_decides p f point l within =
    let lam : ℕ → ℕ = λ i. get_or point i 0 in
    let all = Decides-below_and (λ x. not (is_gain (sum_of p f lam) (sum_of p f (changed lam l x)))) (λ x. ¬ (IsGain (sum_of p f lam) (sum_of p f (changed lam l x))))
    (all_below (λ x. not (is_gain (sum_of p f lam) (sum_of p f (changed lam l x)))))
    (λ x. Decides-not (is_gain (sum_of p f lam) (sum_of p f (changed lam l x))) (gain_decides (sum_of p f lam) (sum_of p f (changed lam l x))))
    refl (λ _. refl) (2 ^ 44 + 1) in
    Decides-like (is_still_at p f lam l)
    (λ each. record { no_gain = λ x most gain. each x (omega (arith, most)) (subst (IsGain (sum_of p f lam)) (changed_sum p f point l x within) gain) })
    (λ still x below gain. still.no_gain x (omega (arith, below)) (subst (IsGain (sum_of p f lam)) (sym (changed_sum p f point l x within)) gain))
    all

still_below : (p : Clearing) (f : List Mark) (point : List ℕ) (n : ℕ) → n ≤ length point →
    Decides (all_below (is_still_at p f (λ i. get_or point i 0)) n) ((l : ℕ) → l < n → IsStillAt p f point (sum_of p f (λ i. get_or point i 0)) l)
still_below p f point zero within = (λ told l below. absurd (omega (arith, below)), λ each. refl)
still_below p f point (suc n) within =
    let rest = still_below p f point n (omega (arith, within)) in
    let last = still_at_decides p f point n (omega (arith, within)) in
    let both = Decides-and (is_still_at p f (λ i. get_or point i 0) n) (all_below (is_still_at p f (λ i. get_or point i 0)) n) last rest in (
      (λ told l below. elim (cases_lt l n) as (λ _. IsStillAt p f point (sum_of p f (λ i. get_or point i 0)) l) [
        | inl before ↦ (both.0 told).1 l before
        | inr at ↦
            let is : l ≡ n = omega (arith, below, at) in
            subst (IsStillAt p f point (sum_of p f (λ i. get_or point i 0))) (sym is) (both.0 told).0
      ]),
      (λ each. both.1 (each n (omega arith), λ l below. each l (omega (arith, below)))),
    )

pub still_decides : (p : Clearing) (f : List Mark) (point : List ℕ) (old : ℤ) → length point ≡ length p.lines → old ≡ sum_of p f (λ i. get_or point i 0) →
    Decides (all_below (is_still_at p f (λ i. get_or point i 0)) (length p.lines)) (IsStill p f point old)
still_decides p f point old size is =
    let all = still_below p f point (length p.lines) (omega (arith, size)) in (
      (λ told. record { each = λ l below. subst (λ z. IsStillAt p f point z l) (sym is) (all.0 told l below) }),
      (λ still. all.1 (λ l below. subst (λ z. IsStillAt p f point z l) is (still.each l below))),
    )

-- the test, step by step
pub settled_above : (p : Clearing) (f : List Mark) (lam : ℕ → ℕ) → le_z (sum_of p f lam) (sum_of p f (λ _. 0)) ≡ false → is_settled p f lam ≡ false
unfolding is_settled
settled_above p f lam above = ap (λ b. b && (lt_z (sum_of p f lam) (pos 4096) || all_below (is_still_at p f lam) (length p.lines))) above

pub settled_small : (p : Clearing) (f : List Mark) (lam : ℕ → ℕ) → le_z (sum_of p f lam) (sum_of p f (λ _. 0)) ≡ true → lt_z (sum_of p f lam) (pos 4096) ≡ true →
    is_settled p f lam ≡ true
unfolding is_settled
settled_small p f lam under small =
    ap (λ b. b && (lt_z (sum_of p f lam) (pos 4096) || all_below (is_still_at p f lam) (length p.lines))) under
    ∙ ap (λ b. b || all_below (is_still_at p f lam) (length p.lines)) small

pub settled_still : (p : Clearing) (f : List Mark) (lam : ℕ → ℕ) → le_z (sum_of p f lam) (sum_of p f (λ _. 0)) ≡ true → lt_z (sum_of p f lam) (pos 4096) ≡ false →
    is_settled p f lam ≡ all_below (is_still_at p f lam) (length p.lines)
unfolding is_settled
settled_still p f lam under big =
    ap (λ b. b && (lt_z (sum_of p f lam) (pos 4096) || all_below (is_still_at p f lam) (length p.lines))) under
    ∙ ap (λ b. b || all_below (is_still_at p f lam) (length p.lines)) big

-- what makes multipliers settled
pub settled_from : (p : Clearing) (f : List Mark) (point : List ℕ) (old : ℤ) → length point ≡ length p.lines → old ≡ sum_of p f (λ i. get_or point i 0) →
    old ≤ℤ sum_of p f (λ _. 0) → (pos 4096 ≤ℤ old → IsStill p f point old) → is_settled p f (λ i. get_or point i 0) ≡ true
settled_from p f point old size is under still =
    let told : le_z (sum_of p f (λ i. get_or point i 0)) (sum_of p f (λ _. 0)) ≡ true =
    (le_decides (sum_of p f (λ i. get_or point i 0)) (sum_of p f (λ _. 0))).1 (omega (arith, ints, is, under)) in
    by_lt_z {P = is_settled p f (λ i. get_or point i 0) ≡ true} (sum_of p f (λ i. get_or point i 0)) (pos 4096)
    (λ small. settled_small p f (λ i. get_or point i 0) told ((lt_decides (sum_of p f (λ i. get_or point i 0)) (pos 4096)).1 small))
    (λ big. settled_still p f (λ i. get_or point i 0) told (not_lt (sum_of p f (λ i. get_or point i 0)) (pos 4096) big)
    ∙ (still_decides p f point old size is).1 (still (omega (arith, ints, is, big))))
