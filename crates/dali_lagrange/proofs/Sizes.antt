use Rattle.std.proofs.Common.{◌≡◌, ℕ, suc, negsuc, sym, subst, ◌*◌, ◌^◌, ◌≤◌, ℤ, pos, ◌+ℤ◌, ◌-ℤ◌, ◌*ℤ◌, ◌≤ℤ◌, arith}
use Rattle.std.proofs.Math.Nat.{mul-le-mul_right}
use Rattle.std.proofs.Math.IntN.{pos-*ℤ-pos, *ℤ_comm}
use Rattle.std.proofs.lemmas.Int.{ints, clamps}
use Rattle.dali_problem.specs.declared.mark.Mark.{Mark}
use Rattle.dali_problem.specs.declared.mark.Mark.TheVariants.{Stranger, Undecided, Chosen, Left}
use Rattle.dali_problem.specs.Limits.{Within}
use Rattle.dali_problem.proofs.IntegerLaws.{mul_add, mul_sub, mul_nonneg}
use Rattle.dali_lagrange.specs.Bound.{count_of}

-- a multiplier times a number of size at most k
pub product_small : (m k : ℕ) (z : ℤ) → m ≤ 2 ^ 44 → Within k z → Within (2 ^ 44 * k) (pos m *ℤ z)
product_small m k z factor small =
    let up : pos 0 ≤ℤ (pos k -ℤ z) = omega (arith, ints, small.high) in
    let down : pos 0 ≤ℤ (z +ℤ pos k) = omega (arith, ints, small.low) in
    let factor_up : pos 0 ≤ℤ pos m = omega (arith, ints) in
    let high : pos 0 ≤ℤ (pos m *ℤ (pos k -ℤ z)) = mul_nonneg (pos m) (pos k -ℤ z) factor_up up in
    let low : pos 0 ≤ℤ (pos m *ℤ (z +ℤ pos k)) = mul_nonneg (pos m) (z +ℤ pos k) factor_up down in
    let most : m * k ≤ 2 ^ 44 * k = mul-le-mul_right k factor in
    let whole : pos m *ℤ pos k ≡ pos (m * k) = pos-*ℤ-pos m k in
    record {
      low = omega (arith, ints, low, mul_add (pos m) z (pos k), most, whole);
      high = omega (arith, ints, high, mul_sub (pos m) (pos k) z, most, whole);
    }

-- what a place counts is no larger than its reduced value
pub counted_small : (k : ℕ) (m : Mark) (z : ℤ) → Within k z → Within k (count_of m z)
counted_small k Stranger z small = record { low = omega (arith, ints); high = omega (arith, ints) }
counted_small k Left z small = record { low = omega (arith, ints); high = omega (arith, ints) }
counted_small k Chosen z small = record { low = omega (arith, ints, small.low); high = omega (arith, ints, small.high) }
counted_small k Undecided z small = record { low = omega (arith, ints, clamps, small.low); high = omega (arith, ints, clamps, small.high) }

pub natural_small : (k n : ℕ) → n ≤ k → Within k (pos n)
natural_small k n most = record { low = omega (arith, ints); high = omega (arith, ints) }

-- two numbers of sizes at most m and k
product_up : (m k n : ℕ) (z : ℤ) → n ≤ m → Within k z → Within (m * k) (pos n *ℤ z)
product_up m k n z factor small =
    let up : pos 0 ≤ℤ (pos k -ℤ z) = omega (arith, ints, small.high) in
    let down : pos 0 ≤ℤ (z +ℤ pos k) = omega (arith, ints, small.low) in
    let factor_up : pos 0 ≤ℤ pos n = omega (arith, ints) in
    let high : pos 0 ≤ℤ (pos n *ℤ (pos k -ℤ z)) = mul_nonneg (pos n) (pos k -ℤ z) factor_up up in
    let low : pos 0 ≤ℤ (pos n *ℤ (z +ℤ pos k)) = mul_nonneg (pos n) (z +ℤ pos k) factor_up down in
    let most : n * k ≤ m * k = mul-le-mul_right k factor in
    let whole : pos n *ℤ pos k ≡ pos (n * k) = pos-*ℤ-pos n k in
    record {
      low = omega (arith, ints, low, mul_add (pos n) z (pos k), most, whole);
      high = omega (arith, ints, high, mul_sub (pos n) (pos k) z, most, whole);
    }

pub mul_less : (a b c : ℤ) → (a -ℤ b) *ℤ c ≡ a *ℤ c -ℤ b *ℤ c
mul_less a b c = omega (arith, ints, *ℤ_comm (a -ℤ b) c, mul_sub c a b, *ℤ_comm c a, *ℤ_comm c b)

pub product_within : (m k : ℕ) (a z : ℤ) → Within m a → Within k z → Within (m * k) (a *ℤ z)
product_within m k (pos n) z factor small = product_up m k n z (omega (arith, ints, factor.high)) small
product_within m k (negsuc n) z factor small =
    let up = product_up m k (suc n) z (omega (arith, ints, factor.low)) small in
    let other : negsuc n ≡ pos 0 -ℤ pos (suc n) = omega (arith, ints) in
    let none : pos 0 *ℤ z ≡ pos 0 = grind (arith, ints) in
    let is : negsuc n *ℤ z ≡ pos 0 *ℤ z -ℤ pos (suc n) *ℤ z = subst (λ b. b *ℤ z ≡ pos 0 *ℤ z -ℤ pos (suc n) *ℤ z) (sym other) (mul_less (pos 0) (pos (suc n)) z) in
    record { low = omega (arith, ints, is, none, up.high); high = omega (arith, ints, is, none, up.low) }
