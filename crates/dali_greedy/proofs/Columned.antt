use Rattle.std.proofs.Common.{◌≡◌, ◌≢◌, inl, inr, ◌⊎◌, ℕ, zero, suc, ◌<◌, ℤ, pos, Bool, List, [], ◌∷◌, ◌++◌, length, get_or, refl, ap, sym, ◌∙◌, subst, arith}
use Rattle.std.specs.List.{All, Contains}
use Rattle.std.specs.Ordering.{int_eq}
use Rattle.std.specs.Prelude.{if◌then◌else◌}
use Rattle.std.proofs.lemmas.Bool.{cases_eq}
use Rattle.std.proofs.lemmas.Bool.Decides.{Decides-int_eq}
use Rattle.std.proofs.lemmas.List.{append-nil}
use Rattle.std.proofs.lemmas.List.Elements.{All-nil, All-push, All-weaker, Contains-append_left, Contains-push}
use Rattle.dali_problem.specs.declared.columns.Touch.{Touch}
use Rattle.dali_problem.specs.Clearing.{Clearing, effect}
use Rattle.dali_problem.specs.Touches.{touches_below, touches}
use Rattle.dali_rest.proofs.Standing.{by_test}
use Rattle.dali_greedy.specs.Standing.{IsTouch}

-- one place more touches the line, or doesn't
more_or_not : (p : Clearing) (l n : ℕ) →
    ((effect p n l ≡ pos 0) × (touches_below p l (suc n) ≡ touches_below p l n))
    ⊎ (touches_below p l (suc n) ≡ touches_below p l n ++ record { place = n; amount = effect p n l } ∷ [])
more_or_not p l n =
    let xs : List Touch = touches_below p l n in
    let e : ℤ = effect p n l in
    let more : Bool → List Touch = λ (b : Bool). xs ++ (if b then [] else record { place = n; amount = e } ∷ []) in
    by_test (int_eq e (pos 0)) {P = ((e ≡ pos 0) × (touches_below p l (suc n) ≡ xs)) ⊎ (touches_below p l (suc n) ≡ xs ++ record { place = n; amount = e } ∷ [])}
    (λ told. inl ((Decides-int_eq e (pos 0)).0 told, ap more told ∙ append-nil xs))
    (λ other. inr (ap more other))

touches_below_are : (p : Clearing) (l n : ℕ) → All (λ (t : Touch). (t.place < n) × (t.amount ≡ effect p t.place l)) (touches_below p l n)
touches_below_are p l zero = All-nil (λ (t : Touch). (t.place < 0) × (t.amount ≡ effect p t.place l))
touches_below_are p l (suc n) =
    let wider = All-weaker (λ (t : Touch). (t.place < n) × (t.amount ≡ effect p t.place l)) (λ (t : Touch). (t.place < suc n) × (t.amount ≡ effect p t.place l))
    (λ t both. (omega (arith, both.0), both.1)) (touches_below p l n) (touches_below_are p l n) in
    elim (more_or_not p l n) as (λ _. All (λ (t : Touch). (t.place < suc n) × (t.amount ≡ effect p t.place l)) (touches_below p l (suc n))) [
      | inl none ↦ subst (All (λ (t : Touch). (t.place < suc n) × (t.amount ≡ effect p t.place l))) (sym none.1) wider
      | inr more ↦ subst (All (λ (t : Touch). (t.place < suc n) × (t.amount ≡ effect p t.place l))) (sym more)
          (All-push (λ (t : Touch). (t.place < suc n) × (t.amount ≡ effect p t.place l)) (touches_below p l n) (record { place = n; amount = effect p n l }) wider (omega arith, refl))
    ]

pub touches_are : (p : Clearing) (l k : ℕ) (d : Touch) → k < length (touches p l) → IsTouch p l (get_or (touches p l) k d)
touches_are p l k d below =
    let both = touches_below_are p l (length p.items) k d below in
    record { place = both.0; amount = both.1 }

-- a place that changes the line is among its touches
touches_below_have : (p : Clearing) (l n i : ℕ) → i < n → effect p i l ≢ pos 0 → Contains (touches_below p l n) (record { place = i; amount = effect p i l })
touches_below_have p l zero i below other = absurd (omega (arith, below))
touches_below_have p l (suc n) i below other = elim (cases_eq i n) as (λ _. Contains (touches_below p l (suc n)) (record { place = i; amount = effect p i l })) [
  | inl last ↦ elim (more_or_not p l n) as (λ _. Contains (touches_below p l (suc n)) (record { place = i; amount = effect p i l })) [
    | inl none ↦ absurd (other (ap (λ k. effect p k l) last ∙ none.0))
    | inr more ↦ subst (λ (ts : List Touch). Contains ts (record { place = i; amount = effect p i l })) (sym more)
        (subst (λ k. Contains (touches_below p l n ++ record { place = n; amount = effect p n l } ∷ []) (record { place = k; amount = effect p k l })) (sym last)
        (Contains-push (touches_below p l n) (record { place = n; amount = effect p n l })))
  ]
  | inr off ↦
      let before = touches_below_have p l n i (omega (arith, below, off)) other in
      elim (more_or_not p l n) as (λ _. Contains (touches_below p l (suc n)) (record { place = i; amount = effect p i l })) [
        | inl none ↦ subst (λ (ts : List Touch). Contains ts (record { place = i; amount = effect p i l })) (sym none.1) before
        | inr more ↦ subst (λ (ts : List Touch). Contains ts (record { place = i; amount = effect p i l })) (sym more)
            (Contains-append_left (touches_below p l n) (record { place = n; amount = effect p n l } ∷ []) (record { place = i; amount = effect p i l }) before)
      ]
]

pub touches_have : (p : Clearing) (l i : ℕ) → i < length p.items → effect p i l ≢ pos 0 → Contains (touches p l) (record { place = i; amount = effect p i l })
touches_have p l i within other = touches_below_have p l (length p.items) i within other
