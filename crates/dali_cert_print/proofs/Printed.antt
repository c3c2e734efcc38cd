use Rattle.std.proofs.Common.{◌≡◌, ◌∙◌, ℕ, ◌+◌, ◌<◌, ◌≤◌, List, [], ◌∷◌, ◌++◌, length, get_or, take, map, refl, sym, ap, append_assoc}
use Rattle.std.proofs.lemmas.List.{take_more, take_all, append-nil}
use Rattle.std.proofs.lemmas.List.Concat.{flat_map-append}
use Rattle.std.proofs.lemmas.List.Folds.{flat_map-map}
use Rattle.std.specs.List.{flat_map}
use Rattle.dali_cert_print.specs.declared.row.Row.{Row}
use Rattle.dali_cert_print.specs.Rows.{after_commas, row_text, rows_text}

-- one more element of a list
pub flat_map_step : {X Y : Type 0} (f : X → List Y) (xs : List X) (i : ℕ) (d : X) → i < length xs →
    flat_map f (take (i + 1) xs) ≡ flat_map f (take i xs) ++ f (get_or xs i d)
flat_map_step f xs i d within =
    ap (flat_map f) (take_more xs i d within) ∙ flat_map-append f (take i xs) (get_or xs i d ∷ [])
    ∙ ap (λ ys. flat_map f (take i xs) ++ ys) (append-nil (f (get_or xs i d)))

-- the fields of a list
pub commas_of : {X : Type 0} (f : X → List ℕ) (xs : List X) → after_commas (map f xs) ≡ flat_map (λ x. 44 ∷ f x) xs
commas_of f xs = flat_map-map (λ field. 44 ∷ field) f xs

-- the rows of a list, a row each
pub texts_of : {X : Type 0} (f : X → Row) (xs : List X) → rows_text (map f xs) ≡ flat_map (λ x. row_text (f x)) xs
texts_of f xs = flat_map-map row_text f xs

-- behind the last element the whole list is told
pub commas_told : {X : Type 0} (f : X → List ℕ) (xs : List X) (i : ℕ) (text old : List ℕ) → length xs ≤ i →
    text ≡ old ++ flat_map (λ x. 44 ∷ f x) (take i xs) → text ≡ old ++ after_commas (map f xs)
commas_told f xs i text old past told =
    told ∙ ap (λ ys. old ++ flat_map (λ x. 44 ∷ f x) ys) (take_all i xs past) ∙ ap (λ ys. old ++ ys) (sym (commas_of f xs))

pub texts_told : {X : Type 0} (f : X → Row) (xs : List X) (i : ℕ) (text old : List ℕ) → length xs ≤ i →
    text ≡ old ++ flat_map (λ x. row_text (f x)) (take i xs) → text ≡ old ++ rows_text (map f xs)
texts_told f xs i text old past told =
    told ∙ ap (λ ys. old ++ flat_map (λ x. row_text (f x)) ys) (take_all i xs past) ∙ ap (λ ys. old ++ ys) (sym (texts_of f xs))

-- the rows of a list, some rows each
pub texts_of_each : {X : Type 0} (f : X → List Row) (xs : List X) → rows_text (flat_map f xs) ≡ flat_map (λ x. rows_text (f x)) xs
texts_of_each f [] = refl
texts_of_each f (x ∷ xs) = flat_map-append row_text (f x) (flat_map f xs) ∙ ap (λ ys. rows_text (f x) ++ ys) (texts_of_each f xs)

pub texts_told_each : {X : Type 0} (f : X → List Row) (xs : List X) (i : ℕ) (text old : List ℕ) → length xs ≤ i →
    text ≡ old ++ flat_map (λ x. rows_text (f x)) (take i xs) → text ≡ old ++ rows_text (flat_map f xs)
texts_told_each f xs i text old past told =
    told ∙ ap (λ ys. old ++ flat_map (λ x. rows_text (f x)) ys) (take_all i xs past) ∙ ap (λ ys. old ++ ys) (sym (texts_of_each f xs))

-- rows between rows
pub text_between : (a b s l : Row) (xs ys zs : List Row) →
    rows_text (a ∷ b ∷ (xs ++ ys ++ s ∷ (zs ++ l ∷ []))) ≡
    row_text a ++ (row_text b ++ (rows_text xs ++ (rows_text ys ++ (row_text s ++ (rows_text zs ++ row_text l)))))
text_between a b s l xs ys zs =
    ap (λ t. row_text a ++ (row_text b ++ t))
    (flat_map-append row_text (xs ++ ys) (s ∷ (zs ++ l ∷ []))
    ∙ ap (λ t. t ++ (row_text s ++ rows_text (zs ++ l ∷ []))) (flat_map-append row_text xs ys)
    ∙ append_assoc (rows_text xs) (rows_text ys) (row_text s ++ rows_text (zs ++ l ∷ []))
    ∙ ap (λ t. rows_text xs ++ (rows_text ys ++ (row_text s ++ t))) (flat_map-append row_text zs (l ∷ []) ∙ ap (λ t. rows_text zs ++ t) (append-nil (row_text l))))
