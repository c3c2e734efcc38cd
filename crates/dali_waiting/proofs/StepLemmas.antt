use Rattle.std.proofs.Common.{◌≡◌, ℕ, zero, suc, ◌+◌, ◌<◌, Bool, true, false, cond, List, [], ◌∷◌, ◌++◌, length, map, take, Some, refl, ap, ◌∙◌, add-one, arith}
use Rattle.std.specs.Prelude.{slice_get, IsSome}
use Rattle.std.specs.List.{filter, flat_map}
use Rattle.std.proofs.lemmas.List.{map-append, append-nil}
use Rattle.std.proofs.lemmas.List.Elements.{filter-append}
use Rattle.std.proofs.lemmas.Grind.{flat_map-append}

-- the item at a place is the next one behind those before it
next_suc : {X : Type 0} (xs : List X) (k : ℕ) (x : X) → Some x ≡ slice_get xs k → take (suc k) xs ≡ take k xs ++ x ∷ []
next_suc [] k x is = absurd (cc)
next_suc (y ∷ ys) zero x is = let same : y ≡ x = cc in ap (λ z. z ∷ []) same
next_suc (y ∷ ys) (suc k) x is = ap (λ zs. y ∷ zs) (next_suc ys k x is)

pub next_item : {X : Type 0} (xs : List X) (k : ℕ) (x : X) → Some x ≡ slice_get xs k → take (k + 1) xs ≡ take k xs ++ x ∷ []
next_item xs k x is = ap (λ n. take n xs) (add-one k) ∙ next_suc xs k x is

pub map_next : {X Y : Type 0} (f : X → Y) (xs : List X) (k : ℕ) (x : X) → Some x ≡ slice_get xs k → map f (take (k + 1) xs) ≡ map f (take k xs) ++ f x ∷ []
map_next f xs k x is = ap (map f) (next_item xs k x is) ∙ map-append f (take k xs) (x ∷ [])

pub flat_map_next : {X Y : Type 0} (f : X → List Y) (xs : List X) (k : ℕ) (x : X) → Some x ≡ slice_get xs k → flat_map f (take (k + 1) xs) ≡ flat_map f (take k xs) ++ f x
flat_map_next f xs k x is = ap (flat_map f) (next_item xs k x is) ∙ flat_map-append f (take k xs) (x ∷ []) ∙ ap (λ ys. flat_map f (take k xs) ++ ys) (append-nil (f x))

module _ {X Y : Type 0} (p : X → Bool) (f : X → Y) (xs : List X) (k : ℕ) (x : X) (is : Some x ≡ slice_get xs k) where
  filtered : map f (filter p (take (k + 1) xs)) ≡ map f (filter p (take k xs)) ++ map f (cond (p x) (x ∷ []) [])
  filtered = ap (λ ys. map f (filter p ys)) (next_item xs k x is) ∙ ap (map f) (filter-append p (take k xs) (x ∷ [])) ∙ map-append f (filter p (take k xs)) (cond (p x) (x ∷ []) [])

  pub filter_yes : p x ≡ true → map f (filter p (take (k + 1) xs)) ≡ map f (filter p (take k xs)) ++ f x ∷ []
  filter_yes told = filtered ∙ ap (λ b. map f (filter p (take k xs)) ++ map f (cond b (x ∷ []) [])) told

  pub filter_no : p x ≡ false → map f (filter p (take (k + 1) xs)) ≡ map f (filter p (take k xs))
  filter_no told = filtered ∙ ap (λ b. map f (filter p (take k xs)) ++ map f (cond b (x ∷ []) [])) told ∙ append-nil (map f (filter p (take k xs)))
