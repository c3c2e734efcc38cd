use Rattle.std.proofs.Common.{◌≡◌, ℕ, Bool, true, false, cond, List, [], ◌∷◌, Some, is_some, ◌||◌, position, refl, sym, ap, ◌∙◌}
use Rattle.std.specs.List.{list_any}
use Rattle.std.specs.Map.{lookup, keys_of}
use Rattle.indexmap.proofs.MapLemmas.{some_index}
use Rattle.dali_base.specs.NameList.{place_of}
use Rattle.dali_base.specs.Readers.{same_bytes}
use Rattle.dali_account.specs.Book.{has_account}

numbered : List (List ℕ) → List (List ℕ × ℕ)
numbered [] = []
numbered (x ∷ xs) = (x, 0) ∷ numbered xs

keys_numbered : (xs : List (List ℕ)) → keys_of (numbered xs) ≡ xs
unfolding numbered
keys_numbered [] = refl
keys_numbered (x ∷ xs) = ap (λ ys. x ∷ ys) (keys_numbered xs)

lookup_numbered : (test : List ℕ → Bool) (xs : List (List ℕ)) → is_some (lookup test (numbered xs)) ≡ list_any test xs
unfolding numbered
lookup_numbered test [] = refl
lookup_numbered test (x ∷ xs) = by (test x) (lookup_numbered test xs)
  where
    by : (b : Bool) → is_some (lookup test (numbered xs)) ≡ list_any test xs → is_some (cond b (Some 0) (lookup test (numbered xs))) ≡ (b || list_any test xs)
    by true rest = refl
    by false rest = rest

-- a name has a place exactly where it is there
pub known_place : (names : List (List ℕ)) (name : List ℕ) → is_some (place_of names name) ≡ has_account names name
known_place names name =
    ap (λ ks. is_some (position (same_bytes name) ks)) (sym (keys_numbered names))
    ∙ some_index (same_bytes name) (numbered names)
    ∙ lookup_numbered (same_bytes name) names
