use Rattle.std.proofs.Common.{◌≡◌, ◌≢◌, ◌<◌, ℕ, None, List, [], ◌∷◌, length, refl, arith}
use Rattle.dali_line.specs.Reading.{spelled_verb}

-- no verb has another number of fields
pub no_verb : spelled_verb [] ≡ None
unfolding spelled_verb
no_verb = refl

pub no_other_length : (pieces : List (List ℕ)) → length pieces ≢ 1 → length pieces ≢ 2 → length pieces ≢ 3 → length pieces ≢ 4 →
    length pieces ≢ 5 → length pieces ≢ 6 → length pieces ≢ 7 → spelled_verb pieces ≡ None
unfolding spelled_verb
no_other_length [] a b c d e f g = refl
no_other_length (w ∷ []) a b c d e f g = absurd (a refl)
no_other_length (w ∷ p ∷ []) a b c d e f g = absurd (b refl)
no_other_length (w ∷ p ∷ q ∷ []) a b c d e f g = absurd (c refl)
no_other_length (w ∷ p ∷ q ∷ r ∷ []) a b c d e f g = absurd (d refl)
no_other_length (w ∷ p ∷ q ∷ r ∷ s ∷ []) a b c d e f g = absurd (e refl)
no_other_length (w ∷ p ∷ q ∷ r ∷ s ∷ t ∷ []) a b c d e f g = absurd (f refl)
no_other_length (w ∷ p ∷ q ∷ r ∷ s ∷ t ∷ u ∷ []) a b c d e f g = absurd (g refl)
no_other_length (w ∷ p ∷ q ∷ r ∷ s ∷ t ∷ u ∷ v ∷ more) a b c d e f g = refl

pub too_long : (pieces : List (List ℕ)) → 7 < length pieces → spelled_verb pieces ≡ None
too_long pieces long = no_other_length pieces (λ e. omega (arith, long, e)) (λ e. omega (arith, long, e)) (λ e. omega (arith, long, e))
    (λ e. omega (arith, long, e)) (λ e. omega (arith, long, e)) (λ e. omega (arith, long, e)) (λ e. omega (arith, long, e))
