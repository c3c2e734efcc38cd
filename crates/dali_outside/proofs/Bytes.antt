use Rattle.std.proofs.Common.{ℕ, ◌<◌, List, All, Fits, w8, get_or, rules}
use Rattle.std.proofs.lemmas.List.Elements.{All-from_get_or}

-- what stands in a slice of bytes is bytes
pub small_items : (xs : List ℕ) → ((i : ℕ) → Fits w8 (get_or xs i 0)) → All (λ b. b < 256) xs
small_items xs fits = All-from_get_or (λ b. b < 256) xs 0 (λ i within. let here = fits i in search rules)
