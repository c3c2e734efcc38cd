use Rattle.std.proofs.Common.{◌≡◌, ◌≢◌, inl, inr, ℕ, zero, suc, ◌+◌, ◌<◌, ◌==◌, pos, Bool, true, false, ◌&&◌, ◌||◌, not, List, [], ◌∷◌, length, take, get_or, set, refl, ap, sym, ◌∙◌, subst, arith}
use Rattle.std.specs.Bool.{Decides}
use Rattle.std.specs.List.{All, list_any, list_all}
use Rattle.std.specs.Ordering.{int_eq}
use Rattle.std.proofs.lemmas.Bool.{and_parts, or_cases, false_from_ne_true}
use Rattle.std.proofs.lemmas.Bool.Decides.{eqb_tells, Decides-int_eq, Decides-not, Decides-by_and, Decides-like, same_from_decides}
use Rattle.std.proofs.lemmas.List.{take_more, get_or-set_same, get_or-set_other}
use Rattle.std.proofs.lemmas.List.Folds.{list_any-append}
use Rattle.dali_problem.specs.declared.row.Effect.{Effect}
use Rattle.dali_problem.specs.Sums.{sum_over}
use Rattle.dali_problem.specs.Clearing.{Clearing, item_at, effect, on_line}
use Rattle.dali_problem.specs.Limits.{AreEffects, IsProblem}
use Rattle.dali_problem.proofs.Lines.{item_limits}
use Rattle.dali_problem.proofs.RuleTests.{present}
use Rattle.dali_problem.proofs.Turned.{one_on_line}

-- an element that passes, and its place
pub any_at : {X : Type 0} (test : X → Bool) (xs : List X) (k : ℕ) (d : X) → k < length xs → test (get_or xs k d) ≡ true → list_any test xs ≡ true
any_at test [] k d within told = absurd (omega arith)
any_at test (x ∷ xs) zero d within told = ap (λ b. b || list_any test xs) told
any_at test (x ∷ xs) (suc k) d within told = ap (λ b. test x || b) (any_at test xs k d (omega arith) told) ∙ or_true (test x)
  where
    or_true : (b : Bool) → (b || true) ≡ true
    or_true true = refl
    or_true false = refl

pub any_finds : {X : Type 0} (test : X → Bool) (xs : List X) (d : X) → list_any test xs ≡ true → (k : ℕ) × (k < length xs) × (test (get_or xs k d) ≡ true)
any_finds test [] d told = absurd (cc)
any_finds test (x ∷ xs) d told = elim (or_cases (test x) (list_any test xs) told) as (λ _. (k : ℕ) × (k < length (x ∷ xs)) × (test (get_or (x ∷ xs) k d) ≡ true)) [
  | inl here ↦ (0, omega arith, here)
  | inr rest ↦
      let found = any_finds test xs d rest in
      (suc found.0, omega (arith, found.1), found.2)
]

-- a place changes a line exactly where it has an effect on it
pub line_is : (p : Clearing) (j l : ℕ) → IsProblem p → j < length p.items →
    list_any (λ (e : Effect). e.line == l) (item_at p j).effects ≡ not (int_eq (effect p j l) (pos 0))
line_is p j l limits within =
    let es : List Effect = (item_at p j).effects in
    let d : Effect = record { line = 0; amount = pos 0 } in
    let are : AreEffects (length p.lines) es = (item_limits p j limits within).effects in
    let changes : Decides (not (int_eq (effect p j l) (pos 0))) (effect p j l ≢ pos 0) =
    Decides-not (int_eq (effect p j l) (pos 0)) (Decides-int_eq (effect p j l) (pos 0)) in
    let has_line : Decides (list_any (λ (e : Effect). e.line == l) es) (effect p j l ≢ pos 0) = (
      λ told none.
          (let found = any_finds (λ (e : Effect). e.line == l) es d told in
          let at : (get_or es found.0 d).line ≡ l = same_line (get_or es found.0 d).line l found.2 in
          let amount : effect p j l ≡ (get_or es found.0 d).amount =
          sym (ap (λ k. sum_over (on_line k) es) at) ∙ one_on_line es found.0 d are.rising found.1 in
          are.not_zero found.0 d found.1 (sym amount ∙ none)),
      λ some. elim (present l d es) as (λ _. list_any (λ (e : Effect). e.line == l) es ≡ true) [
        | inl none ↦ absurd (some none)
        | inr found ↦ any_at (λ (e : Effect). e.line == l) es found.0 d found.1 (ap (λ k. k == l) found.2 ∙ self l)
      ],
    ) in
    same_from_decides (list_any (λ (e : Effect). e.line == l) es) (not (int_eq (effect p j l) (pos 0))) has_line changes
  where
    same_line : (a b : ℕ) → (a == b) ≡ true → a ≡ b
    same_line a b told = elim (eqb_tells a b) as (λ _. a ≡ b) [
      | inl same ↦ same.1
      | inr other ↦ absurd (true_false (sym told ∙ other.0))
    ]
      where
        true_false : true ≡ false → ⊥
        true_false is = cc

    self : (a : ℕ) → (a == a) ≡ true
    self a = elim (eqb_tells a a) as (λ _. (a == a) ≡ true) [
      | inl same ↦ same.0
      | inr other ↦ absurd (other.1 refl)
    ]

-- the lines of members
pub lines_are : (p : Clearing) (members : List ℕ) (l : ℕ) → IsProblem p → All (λ j. j < length p.items) members →
    list_any (λ (j : ℕ). list_any (λ (e : Effect). e.line == l) (item_at p j).effects) members ≡ list_any (λ j. not (int_eq (effect p j l) (pos 0))) members
lines_are p [] l limits within = refl
lines_are p (j ∷ members) l limits within =
    ap (λ b. b || list_any (λ (i : ℕ). list_any (λ (e : Effect). e.line == l) (item_at p i).effects) members) (line_is p j l limits (within 0 0 (omega arith)))
    ∙ ap (λ b. not (int_eq (effect p j l) (pos 0)) || b) (lines_are p members l limits (λ k d below. within (suc k) d (omega arith)))

-- no line of a list of effects is marked exactly where no marked line is among them
pub effects_decide : (marked : ℕ → Bool) (es : List Effect) → Decides (list_all (λ (e : Effect). not (marked e.line)) es)
    ((l : ℕ) → (marked l && list_any (λ (e : Effect). e.line == l) es) ≡ false)
effects_decide marked es =
    let d : Effect = record { line = 0; amount = pos 0 } in
    Decides-like (list_all (λ (e : Effect). not (marked e.line)) es)
    (λ all l. false_from_ne_true (marked l && list_any (λ (e : Effect). e.line == l) es) (λ told.
    let both = and_parts (marked l) (list_any (λ (e : Effect). e.line == l) es) told in
    let found = any_finds (λ (e : Effect). e.line == l) es d both.1 in
    let at : (get_or es found.0 d).line ≡ l = same_line (get_or es found.0 d).line l found.2 in
    let free : not (marked l) ≡ true = subst (λ i. not (marked i) ≡ true) at (all found.0 d found.1) in
    false_true (sym (ap not both.0) ∙ free)))
    (λ none k e below.
    let here : list_any (λ (q : Effect). q.line == (get_or es k e).line) es ≡ true =
    any_at (λ (q : Effect). q.line == (get_or es k e).line) es k e below (self (get_or es k e).line) in
    free_of (marked (get_or es k e).line) (list_any (λ (q : Effect). q.line == (get_or es k e).line) es) here (none (get_or es k e).line))
    (Decides-by_and (λ (e : Effect). not (marked e.line)) (λ e. not (marked e.line) ≡ true) (list_all (λ (e : Effect). not (marked e.line))) (λ e. (λ x. x, λ x. x)) refl (λ _ _. refl) es)
  where
    false_true : false ≡ true → ⊥
    false_true is = cc

    same_line : (a b : ℕ) → (a == b) ≡ true → a ≡ b
    same_line a b told = elim (eqb_tells a b) as (λ _. a ≡ b) [
      | inl same ↦ same.1
      | inr other ↦ absurd (false_true (sym other.0 ∙ told))
    ]

    self : (a : ℕ) → (a == a) ≡ true
    self a = elim (eqb_tells a a) as (λ _. (a == a) ≡ true) [
      | inl same ↦ same.0
      | inr other ↦ absurd (other.1 refl)
    ]

    free_of : (a b : Bool) → b ≡ true → (a && b) ≡ false → not a ≡ true
    free_of true b is none = absurd (false_true (sym none ∙ is))
    free_of false b is none = refl

-- the same of all lines of some places
pub members_decide : (p : Clearing) (marked : ℕ → Bool) (members : List ℕ) →
    Decides (list_all (λ (j : ℕ). list_all (λ (e : Effect). not (marked e.line)) (item_at p j).effects) members)
    ((l : ℕ) → (marked l && list_any (λ (j : ℕ). list_any (λ (e : Effect). e.line == l) (item_at p j).effects) members) ≡ false)
members_decide p marked [] = (λ _ l. nothing (marked l), λ _. refl)
  where
    nothing : (a : Bool) → (a && false) ≡ false
    nothing true = refl
    nothing false = refl
members_decide p marked (j ∷ members) =
    let rest = members_decide p marked members in
    let first = effects_decide marked (item_at p j).effects in
    let on : ℕ → Bool = λ (l : ℕ). list_any (λ (e : Effect). e.line == l) (item_at p j).effects in
    let more : ℕ → Bool = λ (l : ℕ). list_any (λ (i : ℕ). list_any (λ (e : Effect). e.line == l) (item_at p i).effects) members in (
      λ told l.
          let both = and_parts (list_all (λ (e : Effect). not (marked e.line)) (item_at p j).effects)
          (list_all (λ (i : ℕ). list_all (λ (e : Effect). not (marked e.line)) (item_at p i).effects) members) told in
          neither (marked l) (on l) (more l) (first.0 both.0 l) (rest.0 both.1 l),
      λ none. and_true (list_all (λ (e : Effect). not (marked e.line)) (item_at p j).effects)
          (list_all (λ (i : ℕ). list_all (λ (e : Effect). not (marked e.line)) (item_at p i).effects) members)
          (first.1 (λ l. left_none (marked l) (on l) (more l) (none l)))
          (rest.1 (λ l. right_none (marked l) (on l) (more l) (none l))),
    )
  where
    neither : (a b c : Bool) → (a && b) ≡ false → (a && c) ≡ false → (a && (b || c)) ≡ false
    neither true true c x y = x
    neither true false c x y = y
    neither false b c x y = refl

    left_none : (a b c : Bool) → (a && (b || c)) ≡ false → (a && b) ≡ false
    left_none true true c x = x
    left_none true false c x = refl
    left_none false b c x = refl

    right_none : (a b c : Bool) → (a && (b || c)) ≡ false → (a && c) ≡ false
    right_none true true true x = x
    right_none true true false x = refl
    right_none true false c x = x
    right_none false b c x = refl

    and_true : (a b : Bool) → a ≡ true → b ≡ true → (a && b) ≡ true
    and_true a b x y = ap (λ c. c && b) x ∙ y

-- a list goes on by one element
pub any_more : {X : Type 0} (test : X → Bool) (xs : List X) (i : ℕ) (d : X) → i < length xs →
    list_any test (take (i + 1) xs) ≡ (list_any test (take i xs) || test (get_or xs i d))
any_more test xs i d within =
    ap (list_any test) (take_more xs i d within) ∙ list_any-append test (take i xs) (get_or xs i d ∷ [])
    ∙ ap (λ b. list_any test (take i xs) || b) (or_false (test (get_or xs i d)))
  where
    or_false : (b : Bool) → (b || false) ≡ b
    or_false true = refl
    or_false false = refl

-- one line more is marked
pub line_marked : (start marks : List Bool) (es : List Effect) (i : ℕ) (d : Effect) → i < length es → (get_or es i d).line < length marks →
    ((l : ℕ) → get_or marks l false ≡ (get_or start l false || list_any (λ (e : Effect). e.line == l) (take i es))) →
    (l : ℕ) → get_or (set marks (get_or es i d).line true) l false ≡ (get_or start l false || list_any (λ (e : Effect). e.line == l) (take (i + 1) es))
line_marked start marks es i d within inside before l =
    let x : ℕ = (get_or es i d).line in
    let more = any_more (λ (e : Effect). e.line == l) es i d within in
    elim (eqb_tells x l) as (λ _. get_or (set marks x true) l false ≡ (get_or start l false || list_any (λ (e : Effect). e.line == l) (take (i + 1) es))) [
      | inl same ↦
          ap (λ k. get_or (set marks x true) k false) (sym same.1) ∙ get_or-set_same marks x true false inside
          ∙ sym (ap (λ b. get_or start l false || b) (more ∙ ap (λ b. list_any (λ (e : Effect). e.line == l) (take i es) || b) same.0)
          ∙ all_true (get_or start l false) (list_any (λ (e : Effect). e.line == l) (take i es)))
      | inr other ↦
          get_or-set_other marks x l true false (λ e. other.1 (sym e)) ∙ before l
          ∙ sym (ap (λ b. get_or start l false || b) (more ∙ ap (λ b. list_any (λ (e : Effect). e.line == l) (take i es) || b) other.0
          ∙ or_false (list_any (λ (e : Effect). e.line == l) (take i es))))
    ]
  where
    all_true : (a b : Bool) → (a || (b || true)) ≡ true
    all_true true b = refl
    all_true false true = refl
    all_true false false = refl

    or_false : (b : Bool) → (b || false) ≡ b
    or_false true = refl
    or_false false = refl
