use Rattle.std.proofs.Common.{◌≡◌, zero, suc, ℤ, pos, ◌+ℤ◌, ◌-ℤ◌, ◌*ℤ◌, neg_ℤ, ◌≤ℤ◌, ap, ◌∙◌, arith}
use Rattle.std.proofs.lemmas.Int.{ints}
use Rattle.std.proofs.Math.IntN.{+ℤ_one, -ℤ_one, suc_ℤ-*ℤ, pred_ℤ-*ℤ, zero-*ℤ, ℤ_ind}

step_up : (m k : ℤ) → (m +ℤ pos (suc zero)) *ℤ k ≡ m *ℤ k +ℤ k
step_up m k = ap (λ t. t *ℤ k) (+ℤ_one m) ∙ suc_ℤ-*ℤ m k

step_down : (m k : ℤ) → (m +ℤ neg_ℤ (pos (suc zero))) *ℤ k ≡ m *ℤ k -ℤ k
step_down m k = ap (λ t. t *ℤ k) (-ℤ_one m) ∙ pred_ℤ-*ℤ m k

pub mul_add : (a b c : ℤ) → a *ℤ (b +ℤ c) ≡ a *ℤ b +ℤ a *ℤ c
mul_add a b c = ℤ_ind (λ z. z *ℤ (b +ℤ c) ≡ z *ℤ b +ℤ z *ℤ c)
    (omega (arith, ints, zero-*ℤ (b +ℤ c), zero-*ℤ b, zero-*ℤ c))
    (λ n h. omega (arith, ints, step_up (pos n) (b +ℤ c), step_up (pos n) b, step_up (pos n) c))
    (λ n h. omega (arith, ints, step_down (neg_ℤ (pos n)) (b +ℤ c), step_down (neg_ℤ (pos n)) b, step_down (neg_ℤ (pos n)) c))
    a

pub mul_sub : (a b c : ℤ) → a *ℤ (b -ℤ c) ≡ a *ℤ b -ℤ a *ℤ c
mul_sub a b c =
    let whole : a *ℤ ((b -ℤ c) +ℤ c) ≡ a *ℤ (b -ℤ c) +ℤ a *ℤ c = mul_add a (b -ℤ c) c in
    let same : (b -ℤ c) +ℤ c ≡ b = omega (arith, ints) in
    let back : a *ℤ ((b -ℤ c) +ℤ c) ≡ a *ℤ b = ap (λ z. a *ℤ z) same in
    omega (arith, ints)

add_mul : (a b c : ℤ) → (a +ℤ b) *ℤ c ≡ a *ℤ c +ℤ b *ℤ c
add_mul a b c = ℤ_ind (λ z. (a +ℤ z) *ℤ c ≡ a *ℤ c +ℤ z *ℤ c)
    (let same : a +ℤ pos zero ≡ a = omega (arith, ints) in
    let e : (a +ℤ pos zero) *ℤ c ≡ a *ℤ c = ap (λ z. z *ℤ c) same in
    omega (arith, ints, zero-*ℤ c))
    (λ n h.
    let same : a +ℤ (pos n +ℤ pos (suc zero)) ≡ (a +ℤ pos n) +ℤ pos (suc zero) = omega (arith, ints) in
    let e : (a +ℤ (pos n +ℤ pos (suc zero))) *ℤ c ≡ ((a +ℤ pos n) +ℤ pos (suc zero)) *ℤ c = ap (λ z. z *ℤ c) same in
    omega (arith, ints, h, step_up (a +ℤ pos n) c, step_up (pos n) c))
    (λ n h.
    let same : a +ℤ (neg_ℤ (pos n) +ℤ neg_ℤ (pos (suc zero))) ≡ (a +ℤ neg_ℤ (pos n)) +ℤ neg_ℤ (pos (suc zero)) = omega (arith, ints) in
    let e : (a +ℤ (neg_ℤ (pos n) +ℤ neg_ℤ (pos (suc zero)))) *ℤ c ≡ ((a +ℤ neg_ℤ (pos n)) +ℤ neg_ℤ (pos (suc zero))) *ℤ c = ap (λ z. z *ℤ c) same in
    omega (arith, ints, h, step_down (a +ℤ neg_ℤ (pos n)) c, step_down (neg_ℤ (pos n)) c))
    b

pub mul_assoc : (a b c : ℤ) → (a *ℤ b) *ℤ c ≡ a *ℤ (b *ℤ c)
mul_assoc a b c = ℤ_ind (λ z. (z *ℤ b) *ℤ c ≡ z *ℤ (b *ℤ c))
    (let e : (pos zero *ℤ b) *ℤ c ≡ pos zero *ℤ c = ap (λ z. z *ℤ c) (zero-*ℤ b) in
    omega (arith, ints, zero-*ℤ c, zero-*ℤ (b *ℤ c)))
    (λ n h.
    let e : ((pos n +ℤ pos (suc zero)) *ℤ b) *ℤ c ≡ (pos n *ℤ b +ℤ b) *ℤ c = ap (λ z. z *ℤ c) (step_up (pos n) b) in
    omega (arith, ints, h, add_mul (pos n *ℤ b) b c, step_up (pos n) (b *ℤ c)))
    (λ n h.
    let e : ((neg_ℤ (pos n) +ℤ neg_ℤ (pos (suc zero))) *ℤ b) *ℤ c ≡ (neg_ℤ (pos n) *ℤ b -ℤ b) *ℤ c = ap (λ z. z *ℤ c) (step_down (neg_ℤ (pos n)) b) in
    let back : (neg_ℤ (pos n) *ℤ b -ℤ b) +ℤ b ≡ neg_ℤ (pos n) *ℤ b = omega (arith, ints) in
    let whole : ((neg_ℤ (pos n) *ℤ b -ℤ b) +ℤ b) *ℤ c ≡ (neg_ℤ (pos n) *ℤ b) *ℤ c = ap (λ z. z *ℤ c) back in
    omega (arith, ints, h, add_mul (neg_ℤ (pos n) *ℤ b -ℤ b) b c, step_down (neg_ℤ (pos n)) (b *ℤ c)))
    a

pub mul_nonneg : (a b : ℤ) → pos 0 ≤ℤ a → pos 0 ≤ℤ b → pos 0 ≤ℤ (a *ℤ b)
mul_nonneg a b p q = grind (arith, ints)
