use Rattle.std.proofs.Common.{◌≡◌, inl, inr, ℕ, zero, suc, ◌+◌, ◌<◌, Bool, true, false, ◌&&◌, ◌||◌, not, List, [], ◌∷◌, ◌++◌, length, take, get_or, set, eqb, refl, ap, sym, ◌∙◌, subst, arith}
use Rattle.std.specs.Bool.{Decides}
use Rattle.std.specs.List.{AllPairs, list_any, list_all}
use Rattle.std.proofs.lemmas.Bool.{and_parts, or_cases, false_from_ne_true}
use Rattle.std.proofs.lemmas.Bool.Decides.{eqb_tells, Decides-by_and, Decides-like}
use Rattle.std.proofs.lemmas.List.{take_more, get_or-set_same, get_or-set_other, get_or-take, length-take-le}
use Rattle.std.proofs.lemmas.List.Folds.{list_any-append}
use Rattle.std.proofs.lemmas.List.Quantifiers.{all_pairs_push}
use Rattle.dali_problem.specs.Feasible.{has}
use Rattle.dali_tree.specs.declared.choice.Part.{Part}
use Rattle.dali_check.proofs.Entering.{has_push, has_at, contains_has}

-- the keys of two parts, places or lines, have none in common
abbrev pub Apart : (Part → ℕ → Bool) → List Part → Type 0
Apart keys parts = AllPairs (λ (a b : Part). (x : ℕ) → (keys a x && keys b x) ≡ false) parts

-- one part more
pub marked_push : (keys : Part → ℕ → Bool) (parts : List Part) (part : Part) (x : ℕ) →
    list_any (λ (q : Part). keys q x) (parts ++ part ∷ []) ≡ (list_any (λ (q : Part). keys q x) parts || keys part x)
marked_push keys parts part x =
    list_any-append (λ (q : Part). keys q x) parts (part ∷ []) ∙ ap (λ b. list_any (λ (q : Part). keys q x) parts || b) (or_false (keys part x))
  where
    or_false : (b : Bool) → (b || false) ≡ b
    or_false true = refl
    or_false false = refl

any_at : (test : Part → Bool) (parts : List Part) (k : ℕ) (d : Part) → k < length parts → test (get_or parts k d) ≡ true → list_any test parts ≡ true
any_at test [] k d within told = absurd (omega arith)
any_at test (q ∷ parts) zero d within told = ap (λ b. b || list_any test parts) told
any_at test (q ∷ parts) (suc k) d within told =
    ap (λ b. test q || b) (any_at test parts k d (omega arith) told) ∙ or_true (test q)
  where
    or_true : (b : Bool) → (b || true) ≡ true
    or_true true = refl
    or_true false = refl

any_finds : (test : Part → Bool) (parts : List Part) (d : Part) → list_any test parts ≡ true → (k : ℕ) × (k < length parts) × (test (get_or parts k d) ≡ true)
any_finds test [] d told = absurd (cc)
any_finds test (q ∷ parts) d told = elim (or_cases (test q) (list_any test parts) told) as (λ _. (k : ℕ) × (k < length (q ∷ parts)) × (test (get_or (q ∷ parts) k d) ≡ true)) [
  | inl here ↦ (0, omega arith, here)
  | inr rest ↦
      let found = any_finds test parts d rest in
      (suc found.0, omega (arith, found.1), found.2)
]

-- a part more that has no key of those before is apart from them
pub apart_push : (keys : Part → ℕ → Bool) (parts : List Part) (part : Part) → Apart keys parts →
    ((x : ℕ) → (list_any (λ (q : Part). keys q x) parts && keys part x) ≡ false) → Apart keys (parts ++ part ∷ [])
apart_push keys parts part before none = all_pairs_push (λ (a b : Part). (x : ℕ) → (keys a x && keys b x) ≡ false) parts part before
    (λ k d within x. false_from_ne_true (keys (get_or parts k d) x && keys part x) (λ told.
    let both = and_parts (keys (get_or parts k d) x) (keys part x) told in
    let marked = any_at (λ (q : Part). keys q x) parts k d within both.0 in
    false_true (sym (none x) ∙ ap (λ b. b && keys part x) marked ∙ both.1)))
  where
    false_true : false ≡ true → ⊥
    false_true is = cc

-- and one that has is not, nor is any longer list
pub not_apart : (keys : Part → ℕ → Bool) (parts : List Part) (i : ℕ) (d : Part) → i < length parts → Apart keys parts →
    (x : ℕ) → (list_any (λ (q : Part). keys q x) (take i parts) && keys (get_or parts i d) x) ≡ false
not_apart keys parts i d within apart x =
    false_from_ne_true (list_any (λ (q : Part). keys q x) (take i parts) && keys (get_or parts i d) x) (λ told.
    let both = and_parts (list_any (λ (q : Part). keys q x) (take i parts)) (keys (get_or parts i d) x) told in
    let found = any_finds (λ (q : Part). keys q x) (take i parts) d both.0 in
    let size : length (take i parts) ≡ i = length-take-le {A = Part} i parts (omega arith) in
    let less : found.0 < i = omega (arith, found.1, size) in
    let there : keys (get_or parts found.0 d) x ≡ true = ap (λ (q : Part). keys q x) (sym (get_or-take i parts found.0 d less)) ∙ found.2 in
    false_true (sym (apart found.0 i d less within x) ∙ ap (λ b. b && keys (get_or parts i d) x) there ∙ both.1))
  where
    false_true : false ≡ true → ⊥
    false_true is = cc

-- one number more is marked
pub marked_more : (start marks : List Bool) (xs : List ℕ) (i d : ℕ) → i < length xs → get_or xs i d < length marks →
    ((j : ℕ) → get_or marks j false ≡ (get_or start j false || has (take i xs) j)) →
    (j : ℕ) → get_or (set marks (get_or xs i d) true) j false ≡ (get_or start j false || has (take (i + 1) xs) j)
marked_more start marks xs i d within inside before j =
    let x : ℕ = get_or xs i d in
    let more : has (take (i + 1) xs) j ≡ (has (take i xs) j || eqb x j) = ap (λ ys. has ys j) (take_more xs i d within) ∙ has_push (take i xs) x j in
    elim (eqb_tells x j) as (λ _. get_or (set marks x true) j false ≡ (get_or start j false || has (take (i + 1) xs) j)) [
      | inl same ↦
          ap (λ k. get_or (set marks x true) k false) (sym same.1) ∙ get_or-set_same marks x true false inside
          ∙ sym (ap (λ b. get_or start j false || b) (more ∙ ap (λ b. has (take i xs) j || b) same.0) ∙ all_true (get_or start j false) (has (take i xs) j))
      | inr other ↦
          get_or-set_other marks x j true false (λ e. other.1 (sym e)) ∙ before j
          ∙ sym (ap (λ b. get_or start j false || b) (more ∙ ap (λ b. has (take i xs) j || b) other.0 ∙ or_false (has (take i xs) j)))
    ]
  where
    all_true : (a b : Bool) → (a || (b || true)) ≡ true
    all_true true b = refl
    all_true false true = refl
    all_true false false = refl

    or_false : (b : Bool) → (b || false) ≡ b
    or_false true = refl
    or_false false = refl

-- whether none of these is marked
pub free_decides : (marked : ℕ → Bool) (xs : List ℕ) → Decides (list_all (λ j. not (marked j)) xs) ((j : ℕ) → (marked j && has xs j) ≡ false)
free_decides marked xs = Decides-like (list_all (λ j. not (marked j)) xs)
    (λ all j. false_from_ne_true (marked j && has xs j) (λ told.
    let both = and_parts (marked j) (has xs j) told in
    let there = contains_has xs j both.1 in
    let free : not (marked j) ≡ true = subst (λ i. not (marked i) ≡ true) there.2 (all there.0 j there.1) in
    false_true (sym (ap not both.0) ∙ free)))
    (λ none k d below. free_of (marked (get_or xs k d)) (has xs (get_or xs k d)) (has_at xs k d below) (none (get_or xs k d)))
    (Decides-by_and (λ j. not (marked j)) (λ j. not (marked j) ≡ true) (list_all (λ j. not (marked j))) (λ j. (λ x. x, λ x. x)) refl (λ _ _. refl) xs)
  where
    false_true : false ≡ true → ⊥
    false_true is = cc

    free_of : (a b : Bool) → b ≡ true → (a && b) ≡ false → not a ≡ true
    free_of true b is none = absurd (false_true (sym none ∙ is))
    free_of false b is none = refl

-- what a list of parts tells, where it was gone through to part i
pub apart_step : (keys : Part → ℕ → Bool) (parts : List Part) (i : ℕ) (part : Part) (before after : ℕ → Bool) → i < length parts → part ≡ get_or parts i part →
    ((x : ℕ) → before x ≡ list_any (λ (q : Part). keys q x) (take i parts)) →
    ((x : ℕ) → after x ≡ (before x || keys part x)) →
    (x : ℕ) → after x ≡ list_any (λ (q : Part). keys q x) (take (i + 1) parts)
apart_step keys parts i part before after within is so_far marks x =
    marks x ∙ ap (λ b. b || keys part x) (so_far x)
    ∙ ap (λ (q : Part). list_any (λ (r : Part). keys r x) (take i parts) || keys q x) is
    ∙ sym (ap (λ (ps : List Part). list_any (λ (q : Part). keys q x) ps) (take_more parts i part within)
    ∙ marked_push keys (take i parts) (get_or parts i part) x)

pub apart_more : (keys : Part → ℕ → Bool) (parts : List Part) (i : ℕ) (part : Part) (before : ℕ → Bool) → i < length parts → part ≡ get_or parts i part →
    ((x : ℕ) → before x ≡ list_any (λ (q : Part). keys q x) (take i parts)) →
    ((x : ℕ) → (before x && keys part x) ≡ false) → Apart keys (take i parts) → Apart keys (take (i + 1) parts)
apart_more keys parts i part before within is so_far none apart =
    subst (Apart keys) (sym (take_more parts i part within ∙ ap (λ (q : Part). take i parts ++ q ∷ []) (sym is)))
    (apart_push keys (take i parts) part apart (λ x. ap (λ b. b && keys part x) (sym (so_far x)) ∙ none x))

pub apart_none : (keys : Part → ℕ → Bool) (parts : List Part) (i : ℕ) (part : Part) (before : ℕ → Bool) → i < length parts → part ≡ get_or parts i part →
    ((x : ℕ) → before x ≡ list_any (λ (q : Part). keys q x) (take i parts)) → Apart keys parts → (x : ℕ) → (before x && keys part x) ≡ false
apart_none keys parts i part before within is so_far apart x =
    ap (λ b. b && keys part x) (so_far x) ∙ ap (λ (q : Part). list_any (λ (r : Part). keys r x) (take i parts) && keys q x) is
    ∙ not_apart keys parts i part within apart x
