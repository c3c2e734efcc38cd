-- Changes of multipliers: the changes between two of them are the only list of changes that leads from one to the other.
use Rattle.std.proofs.Common.{◌≡◌, ◌≢◌, inl, inr, ℕ, zero, suc, ◌+◌, ◌<◌, ◌≤◌, cond, eqb, List, [], ◌∷◌, ◌++◌, Some, None, refl, sym, ◌∙◌, ap, subst, append_assoc, arith}
use Rattle.std.specs.Prelude.{unwrap_or}
use Rattle.std.proofs.lemmas.Bool.{eq-eqb, ne_eqb, cases_eq, cond-true, cond-false}
use Rattle.std.proofs.lemmas.Bool.Decides.{eqb_tells}
use Rattle.std.proofs.lemmas.List.{append-nil}
use Rattle.dali_record.specs.Multipliers.{Rises, at_line, behind, change, changes_from}

-- each changes the multiplier above
abbrev pub Differ : (ℕ → ℕ) → List (ℕ × ℕ) → Type 0
Differ above [] = Unit {0}
Differ above (m ∷ ms) = (m.1 ≢ above m.0) × Differ above ms

-- each is this line's multiplier
abbrev pub Tell : (ℕ → ℕ) → List (ℕ × ℕ) → Type 0
Tell own [] = Unit {0}
Tell own (m ∷ ms) = (m.1 ≡ own m.0) × Tell own ms

pub rises_lower : (from lower end : ℕ) (ms : List (ℕ × ℕ)) → lower ≤ from → Rises from end ms → Rises lower end ms
rises_lower from lower end [] le rises = tt
rises_lower from lower end (m ∷ ms) le rises = (omega (arith, rises.0), rises.1, rises.2)

pub at_head : (m : ℕ × ℕ) (ms : List (ℕ × ℕ)) (line : ℕ) → m.0 ≡ line → at_line (m ∷ ms) line ≡ Some m.1
at_head m ms line is = cond-true (eqb m.0 line) (Some m.1) (at_line ms line) (eq-eqb m.0 line is)

pub at_tail : (m : ℕ × ℕ) (ms : List (ℕ × ℕ)) (line : ℕ) → (m.0 ≡ line → ⊥) → at_line (m ∷ ms) line ≡ at_line ms line
at_tail m ms line other = cond-false (eqb m.0 line) (Some m.1) (at_line ms line) (ne_eqb m.0 line other)

pub none_before : (from end line : ℕ) (ms : List (ℕ × ℕ)) → Rises from end ms → line < from → at_line ms line ≡ None
none_before from end line [] rises before = refl
none_before from end line (m ∷ ms) rises before =
    at_tail m ms line (λ is. omega (arith, rises.0, is)) ∙ none_before (suc m.0) end line ms rises.2 (omega (arith, rises.0))

pub none_past : (from end line : ℕ) (ms : List (ℕ × ℕ)) → Rises from end ms → end ≤ line → at_line ms line ≡ None
none_past from end line [] rises past = refl
none_past from end line (m ∷ ms) rises past =
    at_tail m ms line (λ is. omega (arith, rises.1, is)) ∙ none_past (suc m.0) end line ms rises.2 past

-- what the change of a line is
pub change_none : (above own : ℕ → ℕ) (line : ℕ) → own line ≡ above line → change above own line ≡ []
change_none above own line same = cond-true (eqb (own line) (above line)) [] ((line, own line) ∷ []) (eq-eqb _ _ same)

pub change_some : (above own : ℕ → ℕ) (line : ℕ) → own line ≢ above line → change above own line ≡ (line, own line) ∷ []
change_some above own line other = cond-false (eqb (own line) (above line)) [] ((line, own line) ∷ []) (ne_eqb _ _ other)

-- the changes look at no line but theirs
pub changes_same : (f g f' g' : ℕ → ℕ) (line count : ℕ) → ((l : ℕ) → line ≤ l → l < line + count → f l ≡ f' l) →
    ((l : ℕ) → line ≤ l → l < line + count → g l ≡ g' l) → changes_from f g line count ≡ changes_from f' g' line count
unfolding changes_from
changes_same f g f' g' line zero above own = refl
changes_same f g f' g' line (suc count) above own =
    let a : f line ≡ f' line = above line (omega arith) (omega arith) in
    let o : g line ≡ g' line = own line (omega arith) (omega arith) in
    let here : change f g line ≡ change f' g' line =
    ap (λ x. cond (eqb (g line) x) [] ((line, g line) ∷ [])) a ∙ ap (λ y. cond (eqb y (f' line)) [] ((line, y) ∷ [])) o in
    let rest = changes_same f g f' g' (suc line) count (λ l from below. above l (omega arith) (omega arith)) (λ l from below. own l (omega arith) (omega arith)) in
    ap (λ (x : List (ℕ × ℕ)). x ++ changes_from f g (suc line) count) here ∙ ap (λ (x : List (ℕ × ℕ)). change f' g' line ++ x) rest

-- where nothing differs, nothing changes
pub changes_none : (f g : ℕ → ℕ) (line count : ℕ) → ((l : ℕ) → line ≤ l → l < line + count → g l ≡ f l) → changes_from f g line count ≡ []
unfolding changes_from
changes_none f g line zero same = refl
changes_none f g line (suc count) same =
    let here = change_none f g line (same line (omega arith) (omega arith)) in
    let rest = changes_none f g (suc line) count (λ l from below. same l (omega arith) (omega arith)) in
    ap (λ (x : List (ℕ × ℕ)). x ++ changes_from f g (suc line) count) here ∙ rest

-- rising changes, each of which differs, are the changes to what they lead to
pub changes_of : (f g : ℕ → ℕ) (line count : ℕ) (ms : List (ℕ × ℕ)) → Rises line (line + count) ms → Differ f ms →
    ((l : ℕ) → line ≤ l → l < line + count → g l ≡ behind f ms l) → changes_from f g line count ≡ ms
unfolding changes_from
changes_of f g line zero [] rises differ leads = refl
changes_of f g line zero (m ∷ ms) rises differ leads = absurd (omega (arith, rises.0, rises.1))
changes_of f g line (suc count) [] rises differ leads = changes_none f g line (suc count) leads
changes_of f g line (suc count) (m ∷ ms) rises differ leads =
    let own = leads line (omega arith) (omega arith) in
    let end : line + suc count ≡ suc line + count = omega arith in
    elim (cases_eq m.0 line) as (λ _. change f g line ++ changes_from f g (suc line) count ≡ m ∷ ms) [
      | inl is ↦
          let told : g line ≡ m.1 = own ∙ ap (λ o. unwrap_or o (f line)) (at_head m ms line is) in
          let other : g line ≢ f line = λ same. differ.0 (sym told ∙ same ∙ ap f (sym is)) in
          let one : (line, g line) ≡ m = ap (λ y. (line, y)) told ∙ ap (λ (x : ℕ). (x, m.1)) (sym is) in
          let rest = changes_of f g (suc line) count ms (subst (λ (x : ℕ). Rises (suc x) (suc line + count) ms) is (subst (λ e. Rises (suc m.0) e ms) end rises.2)) differ.1
          (λ l from below. leads l (omega arith) (omega (arith, end)) ∙ ap (λ o. unwrap_or o (f l)) (at_tail m ms l (λ at. omega (arith, at, is)))) in
          ap (λ (x : List (ℕ × ℕ)). x ++ changes_from f g (suc line) count) (change_some f g line other)
          ∙ ap (λ (x : ℕ × ℕ). x ∷ changes_from f g (suc line) count) one ∙ ap (λ (x : List (ℕ × ℕ)). m ∷ x) rest
      | inr other ↦
          let later : suc line ≤ m.0 = omega (arith, rises.0) in
          let none : at_line (m ∷ ms) line ≡ None = none_before m.0 (line + suc count) line (m ∷ ms) (omega arith, rises.1, rises.2) (omega arith) in
          let here = change_none f g line (own ∙ ap (λ o. unwrap_or o (f line)) none) in
          let rest = changes_of f g (suc line) count (m ∷ ms) (subst (λ e. Rises (suc line) e (m ∷ ms)) end (later, rises.1, rises.2)) differ
          (λ l from below. leads l (omega arith) (omega (arith, end))) in
          ap (λ (x : List (ℕ × ℕ)). x ++ changes_from f g (suc line) count) here ∙ rest
    ]

-- changes from one line on rise from there, lie within their lines, differ, and tell what they lead to
pub changes_rise : (f g : ℕ → ℕ) (line count : ℕ) → Rises line (line + count) (changes_from f g line count)
unfolding changes_from
changes_rise f g line zero = tt
changes_rise f g line (suc count) =
    let end : suc line + count ≡ line + suc count = omega arith in
    let rest = subst (λ e. Rises (suc line) e (changes_from f g (suc line) count)) end (changes_rise f g (suc line) count) in
    elim (eqb_tells (g line) (f line)) as (λ _. Rises line (line + suc count) (change f g line ++ changes_from f g (suc line) count)) [
      | inl same ↦ subst (λ (x : List (ℕ × ℕ)). Rises line (line + suc count) (x ++ changes_from f g (suc line) count)) (sym (change_none f g line same.1))
          (rises_lower (suc line) line (line + suc count) (changes_from f g (suc line) count) (omega arith) rest)
      | inr other ↦ subst (λ (x : List (ℕ × ℕ)). Rises line (line + suc count) (x ++ changes_from f g (suc line) count)) (sym (change_some f g line other.1))
          (omega arith, omega arith, rest)
    ]

pub changes_differ : (f g : ℕ → ℕ) (line count : ℕ) → Differ f (changes_from f g line count)
unfolding changes_from
changes_differ f g line zero = tt
changes_differ f g line (suc count) =
    let rest = changes_differ f g (suc line) count in
    elim (eqb_tells (g line) (f line)) as (λ _. Differ f (change f g line ++ changes_from f g (suc line) count)) [
      | inl same ↦ subst (λ (x : List (ℕ × ℕ)). Differ f (x ++ changes_from f g (suc line) count)) (sym (change_none f g line same.1)) rest
      | inr other ↦ subst (λ (x : List (ℕ × ℕ)). Differ f (x ++ changes_from f g (suc line) count)) (sym (change_some f g line other.1)) (other.1, rest)
    ]

pub changes_tell : (f g : ℕ → ℕ) (line count : ℕ) → Tell g (changes_from f g line count)
unfolding changes_from
changes_tell f g line zero = tt
changes_tell f g line (suc count) =
    let rest = changes_tell f g (suc line) count in
    elim (eqb_tells (g line) (f line)) as (λ _. Tell g (change f g line ++ changes_from f g (suc line) count)) [
      | inl same ↦ subst (λ (x : List (ℕ × ℕ)). Tell g (x ++ changes_from f g (suc line) count)) (sym (change_none f g line same.1)) rest
      | inr other ↦ subst (λ (x : List (ℕ × ℕ)). Tell g (x ++ changes_from f g (suc line) count)) (sym (change_some f g line other.1)) (refl, rest)
    ]

-- the changes lead to the multipliers of which they are the changes
pub changes_lead : (f g : ℕ → ℕ) (line count l : ℕ) → line ≤ l → l < line + count → behind f (changes_from f g line count) l ≡ g l
unfolding changes_from
changes_lead f g line zero l from below = absurd (omega arith)
changes_lead f g line (suc count) l from below =
    let rest = changes_from f g (suc line) count in
    elim (eqb_tells (g line) (f line)) as (λ _. behind f (change f g line ++ rest) l ≡ g l) [
      | inl same ↦
          ap (λ (x : List (ℕ × ℕ)). behind f (x ++ rest) l) (change_none f g line same.1)
          ∙ elim (cases_eq l line) as (λ _. behind f rest l ≡ g l) [
            | inl is ↦ ap (λ o. unwrap_or o (f l)) (none_before (suc line) (suc line + count) l rest (changes_rise f g (suc line) count) (omega arith))
                ∙ ap f is ∙ sym same.1 ∙ ap g (sym is)
            | inr other ↦ changes_lead f g (suc line) count l (omega arith) (omega arith)
          ]
      | inr other ↦
          ap (λ (x : List (ℕ × ℕ)). behind f (x ++ rest) l) (change_some f g line other.1)
          ∙ elim (cases_eq line l) as (λ _. behind f ((line, g line) ∷ rest) l ≡ g l) [
            | inl is ↦ ap (λ o. unwrap_or o (f l)) (at_head (line, g line) rest l is) ∙ ap g is
            | inr apart ↦ ap (λ o. unwrap_or o (f l)) (at_tail (line, g line) rest l apart) ∙ changes_lead f g (suc line) count l (omega arith) (omega arith)
          ]
    ]

-- one line more at the end
pub changes_more : (f g : ℕ → ℕ) (line count : ℕ) → changes_from f g line (suc count) ≡ changes_from f g line count ++ change f g (line + count)
unfolding changes_from
changes_more f g line zero =
    let at : line ≡ line + 0 = omega arith in
    let flat : change f g line ++ [] ≡ change f g line = append-nil (change f g line) in
    flat ∙ ap (change f g) at
changes_more f g line (suc count) =
    let at : suc line + count ≡ line + suc count = omega arith in
    ap (λ (x : List (ℕ × ℕ)). change f g line ++ x) (changes_more f g (suc line) count)
    ∙ sym (append_assoc (change f g line) (changes_from f g (suc line) count) (change f g (suc line + count)))
    ∙ ap (λ (k : ℕ). (change f g line ++ changes_from f g (suc line) count) ++ change f g k) at
