use Rattle.std.proofs.Common.{◌≡◌, inl, inr, ℕ, ◌+◌, ◌*◌, ℤ, pos, ◌≤ℤ◌, Bool, true, false, not, ◌&&◌, List, refl, ap, ◌∙◌, sym, arith}
use Rattle.std.specs.Prelude.{◌↔◌}
use Rattle.std.proofs.lemmas.Bool.{cases_Bool, and_parts}
use Rattle.std.proofs.lemmas.Int.{ints}
use Rattle.dali_problem.specs.declared.mark.Mark.{Mark}
use Rattle.dali_problem.specs.Clearing.{Clearing}
use Rattle.dali_lagrange.specs.Bound.{sum_of, bound_of}
use Rattle.dali_lagrange.specs.Multipliers.{multiplier}
use Rattle.dali_lagrange.proofs.Bounds.{reaches as up, reached_by as down}
use Rattle.dali_lagrange.proofs.SettledLaws.{le_decides}
use Rattle.dali_check.specs.Lean.{reaches, is_tight}
use Rattle.dali_check.specs.Proves.{closes}
use Rattle.dali_check.proofs.Stands.{closes_is}

-- The comparisons on the scale are those of the bound of the multipliers.

pub reaches_bound : (p : Clearing) (u : ℕ) (lam : List (ℕ × ℕ)) (f : List Mark) →
    (reaches p u lam f ≡ true) ↔ (pos u ≤ℤ bound_of (sum_of p f (multiplier lam)))
unfolding reaches
reaches_bound p u lam f =
    let s = sum_of p f (multiplier lam) in (
      λ told. up u s ((le_decides (pos (4096 * u)) s).0 told),
      λ above. (le_decides (pos (4096 * u)) s).1 (down u s above),
    )

not_flips : (a b : Bool) → not a ≡ b → (b ≡ true → a ≡ false) × (a ≡ false → b ≡ true)
not_flips true b is = (λ told. absurd (let wrong : false ≡ true = is ∙ told in cc wrong), λ told. absurd (cc told))
not_flips false b is = (λ told. refl, λ told. sym is)

pub closes_bound : (p : Clearing) (u : ℕ) (lam : List (ℕ × ℕ)) (f : List Mark) →
    (closes p u lam f ≡ true) ↔ (bound_of (sum_of p f (multiplier lam)) ≤ℤ pos u)
closes_bound p u lam f =
    let b = bound_of (sum_of p f (multiplier lam)) in
    let flips = not_flips (reaches p (u + 1) lam f) (closes p u lam f) (closes_is p u lam f) in
    let next = reaches_bound p (u + 1) lam f in (
      λ told. at_most b u (λ above. true_false (sym (next.1 above) ∙ flips.0 told)),
      λ most. flips.1 (is_false (reaches p (u + 1) lam f) (λ told. not_both b u (next.0 told) most)),
    )
  where
    true_false : true ≡ false → ⊥
    true_false is = cc

    at_most : (b : ℤ) (u : ℕ) → (pos (u + 1) ≤ℤ b → ⊥) → b ≤ℤ pos u
    at_most b u none = grind (arith, ints)

    not_both : (b : ℤ) (u : ℕ) → pos (u + 1) ≤ℤ b → b ≤ℤ pos u → ⊥
    not_both b u above most = absurd (omega (arith, ints, above, most))

    is_false : (a : Bool) → (a ≡ true → ⊥) → a ≡ false
    is_false true none = absurd (none refl)
    is_false false none = refl

pub tight_bound : (p : Clearing) (u : ℕ) (lam : List (ℕ × ℕ)) (f : List Mark) →
    (is_tight p u lam f ≡ true) ↔ (bound_of (sum_of p f (multiplier lam)) ≡ pos u)
unfolding is_tight
tight_bound p u lam f =
    let b = bound_of (sum_of p f (multiplier lam)) in
    let low = reaches_bound p u lam f in
    let high = closes_bound p u lam f in (
      λ told. (let both = and_parts (reaches p u lam f) (closes p u lam f) told in
          let at_least = low.0 both.0 in
          let at_most = high.0 both.1 in
          omega (arith, ints, at_least, at_most)),
      λ same. and_of (reaches p u lam f) (closes p u lam f) (low.1 (omega (arith, ints, same))) (high.1 (omega (arith, ints, same))),
    )
  where
    and_of : (a b : Bool) → a ≡ true → b ≡ true → (a && b) ≡ true
    and_of true b told other = other
    and_of false b told other = absurd (cc told)
