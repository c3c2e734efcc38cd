use Rattle.std.proofs.Common.{◌≡◌, ◌∙◌, ℕ, ◌+◌, Some, None, Option, List, [], ◌∷◌, ◌++◌, refl, sym, ap, append_assoc}
use Rattle.std.proofs.lemmas.List.{append-nil}
use Rattle.std.specs.Prelude.{option_and_then}
use Rattle.dali_cert_text.specs.Fields.{first_of, rising_of}

-- Reading a list one after the other: what was read and what is still to be read make the whole.

abbrev pub with_front : {A : Type 0} → List A → Option (List A) → Option (List A)
with_front front read = option_and_then (λ xs. Some (front ++ xs)) read

front_moves : {A : Type 0} (front : List A) (x : A) (read : Option (List A)) →
    with_front front (option_and_then (λ xs. Some (x ∷ xs)) read) ≡ with_front (front ++ x ∷ []) read
front_moves front x None = refl
front_moves front x (Some xs) = ap (λ ys. Some ys) (sym (append_assoc front (x ∷ []) xs))

module _ {A : Type 0} (read : ℕ → List ℕ → Option A) (key : A → ℕ) where
  pub reads_on : (front : List A) (low : ℕ) (fields behind : List (List ℕ)) (field : List ℕ) (x : A) (total : Option (List A)) →
      Some (field, behind) ≡ first_of fields → Some x ≡ read low field → with_front front (rising_of read key low fields) ≡ total →
      with_front (front ++ x ∷ []) (rising_of read key (key x + 1) behind) ≡ total
  reads_on front low [] behind field x total first told whole = absurd cc
  reads_on front low (f ∷ fs) behind field x total first told whole =
      let pair : (field, behind) ≡ (f, fs) = cc in
      let head : field ≡ f = ap (λ (q : List ℕ × List (List ℕ)). q.0) pair in
      let tail : behind ≡ fs = ap (λ (q : List ℕ × List (List ℕ)). q.1) pair in
      let value : read low f ≡ Some x = ap (read low) (sym head) ∙ sym told in
      ap (λ b. with_front (front ++ x ∷ []) (rising_of read key (key x + 1) b)) tail
      ∙ sym (front_moves front x (rising_of read key (key x + 1) fs))
      ∙ sym (ap (λ r. with_front front (option_and_then (λ y. option_and_then (λ xs. Some (y ∷ xs)) (rising_of read key (key y + 1) fs)) r)) value)
      ∙ whole

  pub reads_none : (front : List A) (low : ℕ) (fields behind : List (List ℕ)) (field : List ℕ) (total : Option (List A)) →
      Some (field, behind) ≡ first_of fields → None ≡ read low field → with_front front (rising_of read key low fields) ≡ total → None ≡ total
  reads_none front low [] behind field total first told whole = absurd cc
  reads_none front low (f ∷ fs) behind field total first told whole =
      let pair : (field, behind) ≡ (f, fs) = cc in
      let head : field ≡ f = ap (λ (q : List ℕ × List (List ℕ)). q.0) pair in
      let value : read low f ≡ None = ap (read low) (sym head) ∙ sym told in
      sym (ap (λ r. with_front front (option_and_then (λ y. option_and_then (λ xs. Some (y ∷ xs)) (rising_of read key (key y + 1) fs)) r)) value) ∙ whole

  pub reads_all : (front : List A) (low : ℕ) (fields : List (List ℕ)) (total : Option (List A)) →
      None ≡ first_of fields → with_front front (rising_of read key low fields) ≡ total → Some front ≡ total
  reads_all front low [] total first whole = ap (λ ys. Some ys) (sym (append-nil front)) ∙ whole
  reads_all front low (f ∷ fs) total first whole = absurd cc
