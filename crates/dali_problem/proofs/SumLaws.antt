use Rattle.std.proofs.Common.{◌≡◌, ◌≢◌, inl, inr, ℕ, zero, suc, ◌+◌, ◌*◌, ◌<◌, ℤ, pos, ◌+ℤ◌, ◌-ℤ◌, ◌*ℤ◌, ◌≤ℤ◌, List, [], ◌∷◌, ◌++◌, length, take, get_or, refl, ap, sym, ◌∙◌, arith, add-one, sum_by}
use Rattle.std.proofs.lemmas.Int.{ints}
use Rattle.std.proofs.lemmas.Bool.{cases_eq}
use Rattle.std.proofs.lemmas.List.{take_more}
use Rattle.std.proofs.lemmas.List.Sums.{sum_by-cons}
use Rattle.dali_problem.specs.Sums.{sum_below, sum_over}
use Rattle.dali_problem.specs.Limits.{Within}
use Rattle.dali_problem.proofs.IntegerLaws.{mul_add}

-- for a loop's step, whose counter is i + 1
pub sum_below_more : (f : ℕ → ℤ) (i : ℕ) → sum_below f (i + 1) ≡ sum_below f i +ℤ f i
sum_below_more f i = ap (sum_below f) (add-one i)

pub sum_below_zero : (n : ℕ) → sum_below (λ _. pos 0) n ≡ pos 0
sum_below_zero zero = refl
sum_below_zero (suc n) = omega (arith, ints, sum_below_zero n)

pub sum_below_add : (f g : ℕ → ℤ) (n : ℕ) → sum_below (λ k. f k +ℤ g k) n ≡ sum_below f n +ℤ sum_below g n
sum_below_add f g zero = refl
sum_below_add f g (suc n) = omega (arith, ints, sum_below_add f g n)

pub sum_below_sub : (f g : ℕ → ℤ) (n : ℕ) → sum_below (λ k. f k -ℤ g k) n ≡ sum_below f n -ℤ sum_below g n
sum_below_sub f g zero = refl
sum_below_sub f g (suc n) = omega (arith, ints, sum_below_sub f g n)

pub sum_below_scale : (c : ℤ) (f : ℕ → ℤ) (n : ℕ) → sum_below (λ k. c *ℤ f k) n ≡ c *ℤ sum_below f n
sum_below_scale c f zero = grind (arith, ints)
sum_below_scale c f (suc n) = omega (arith, ints, sum_below_scale c f n, mul_add c (sum_below f n) (f n))

-- terms that are equal below n
pub sum_below_same : (f g : ℕ → ℤ) (n : ℕ) → ((k : ℕ) → k < n → f k ≡ g k) → sum_below f n ≡ sum_below g n
sum_below_same f g zero same = refl
sum_below_same f g (suc n) same =
    let last : f n ≡ g n = same n (omega arith) in
    let rest : sum_below f n ≡ sum_below g n = sum_below_same f g n (λ k below. same k (omega arith)) in
    ap (λ s. s +ℤ f n) rest ∙ ap (λ t. sum_below g n +ℤ t) last

pub sum_below_le : (f g : ℕ → ℤ) (n : ℕ) → ((k : ℕ) → k < n → f k ≤ℤ g k) → sum_below f n ≤ℤ sum_below g n
sum_below_le f g zero le = omega (arith, ints)
sum_below_le f g (suc n) le =
    let last : f n ≤ℤ g n = le n (omega arith) in
    let rest : sum_below f n ≤ℤ sum_below g n = sum_below_le f g n (λ k below. le k (omega arith)) in
    omega (arith, ints)

-- the order of two sums
pub sum_below_swap : (f : ℕ → ℕ → ℤ) (m n : ℕ) →
    sum_below (λ k. sum_below (f k) n) m ≡ sum_below (λ l. sum_below (λ k. f k l) m) n
sum_below_swap f zero n = sym (sum_below_zero n)
sum_below_swap f (suc m) n = ap (λ s. s +ℤ sum_below (f m) n) (sum_below_swap f m n) ∙ sym (sum_below_add (λ l. sum_below (λ k. f k l) m) (f m) n)

-- the terms differ at k alone
pub sum_below_change : (f g : ℕ → ℤ) (n k : ℕ) → k < n → ((i : ℕ) → i < n → i ≢ k → g i ≡ f i) →
    sum_below g n ≡ sum_below f n +ℤ (g k -ℤ f k)
sum_below_change f g zero k within same = absurd (omega arith)
sum_below_change f g (suc n) k within same = elim (cases_eq n k) as (λ _. sum_below g (suc n) ≡ sum_below f (suc n) +ℤ (g k -ℤ f k)) [
  | inl at ↦
      let rest : sum_below g n ≡ sum_below f n = sum_below_same g f n (λ i below. same i (omega arith) (λ e. absurd (omega arith))) in
      let there : g n ≡ g k = ap g at in
      let was : f n ≡ f k = ap f at in
      omega (arith, ints)
  | inr off ↦
      let below : k < n = omega arith in
      let rest : sum_below g n ≡ sum_below f n +ℤ (g k -ℤ f k) = sum_below_change f g n k below (λ i less. same i (omega arith)) in
      let there : g n ≡ f n = same n (omega arith) off in
      omega (arith, ints)
]

-- terms of at most m in size
pub sum_below_within : (m : ℕ) (f : ℕ → ℤ) (n : ℕ) → ((k : ℕ) → k < n → Within m (f k)) → Within (n * m) (sum_below f n)
sum_below_within m f zero small = record { low = omega (arith, ints); high = omega (arith, ints) }
sum_below_within m f (suc n) small =
    let last = small n (omega arith) in
    let rest = sum_below_within m f n (λ k below. small k (omega arith)) in
    let size : suc n * m ≡ n * m + m = omega arith in
    record { low = omega (arith, ints, last.low, rest.low); high = omega (arith, ints, last.high, rest.high) }

pub sum_over_add : {X : Type 0} (f g : X → ℤ) (xs : List X) → sum_over (λ x. f x +ℤ g x) xs ≡ sum_over f xs +ℤ sum_over g xs
sum_over_add f g [] = refl
sum_over_add f g (x ∷ xs) = omega (arith, ints, sum_over_add f g xs)

pub sum_over_push : {X : Type 0} (f : X → ℤ) (xs : List X) (y : X) → sum_over f (xs ++ y ∷ []) ≡ sum_over f xs +ℤ f y
sum_over_push f [] y = omega (arith, ints)
sum_over_push f (x ∷ xs) y = omega (arith, ints, sum_over_push f xs y)

pub sum_over_append : {X : Type 0} (f : X → ℤ) (xs ys : List X) → sum_over f (xs ++ ys) ≡ sum_over f xs +ℤ sum_over f ys
sum_over_append f [] ys = omega (arith, ints)
sum_over_append f (x ∷ xs) ys = omega (arith, ints, sum_over_append f xs ys)

pub sum_over_more : {X : Type 0} (f : X → ℤ) (xs : List X) (i : ℕ) (d : X) → i < length xs →
    sum_over f (take (i + 1) xs) ≡ sum_over f (take i xs) +ℤ f (get_or xs i d)
sum_over_more f xs i d within = ap (sum_over f) (take_more xs i d within) ∙ sum_over_push f (take i xs) (get_or xs i d)

pub sum_over_within : {X : Type 0} (m : ℕ) (f : X → ℤ) (xs : List X) → ((x : X) → Within m (f x)) → Within (length xs * m) (sum_over f xs)
sum_over_within m f [] small = record { low = omega (arith, ints); high = omega (arith, ints) }
sum_over_within m f (x ∷ xs) small =
    let first = small x in
    let rest = sum_over_within m f xs small in
    let size : suc (length xs) * m ≡ length xs * m + m = omega arith in
    record { low = omega (arith, ints, first.low, rest.low); high = omega (arith, ints, first.high, rest.high) }

-- a sum of naturals, as one of integers
pub sum_over_pos : {X : Type 0} (f : X → ℕ) (xs : List X) → pos (sum_by f xs) ≡ sum_over (λ x. pos (f x)) xs
sum_over_pos f [] = refl
sum_over_pos f (x ∷ xs) = ap pos (sum_by-cons f x xs) ∙ ap (λ z. pos (f x) +ℤ z) (sum_over_pos f xs)
