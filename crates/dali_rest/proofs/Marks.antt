use Rattle.std.proofs.Common.{◌≡◌, ◌≢◌, inl, inr, ℕ, ◌+◌, ◌<◌, List, [], ◌∷◌, ◌++◌, length, take, get_or, set, ap, sym, ◌∙◌, subst, arith}
use Rattle.std.specs.List.{Contains}
use Rattle.std.proofs.lemmas.Bool.{cases_eq}
use Rattle.std.proofs.lemmas.List.{set-set, set-get_or, get_or-set_same, get_or-set_other, take_more}
use Rattle.std.proofs.lemmas.List.Elements.{Contains-append_left, Contains-push, Contains-push_cases}
use Rattle.dali_problem.specs.declared.mark.Mark.{Mark}
use Rattle.dali_problem.specs.declared.mark.Mark.TheVariants.{Stranger, Chosen, Left}
use Rattle.dali_problem.specs.Partial.{mark, is_decided}
use Rattle.dali_problem.proofs.Opened.{within_decided}
use Rattle.dali_rest.specs.Room.{AreMarksOf}

pub mark_same : (f : List Mark) (j : ℕ) (m : Mark) → j < length f → mark (set f j m) j ≡ m
mark_same f j m within = get_or-set_same f j m Stranger within

pub mark_other : (f : List Mark) (j k : ℕ) (m : Mark) → k ≢ j → mark (set f j m) k ≡ mark f k
mark_other f j k m off = get_or-set_other f j k m Stranger off

-- a mark that is put back
pub put_back : (f : List Mark) (j : ℕ) (m was : Mark) → mark f j ≡ was → set (set f j m) j was ≡ f
put_back f j m was is = set-set f j m was ∙ ap (λ n. set f j n) (sym is) ∙ set-get_or f j Stranger

-- one place more is chosen
pub more_chosen : (n : ℕ) (s : List ℕ) (f g : List Mark) (i : ℕ) → i < length s → get_or s i 0 < length f → g ≡ set f (get_or s i 0) Chosen →
    AreMarksOf n (take i s) f → AreMarksOf n (take (i + 1) s) g
more_chosen n s f g i within inside put so_far =
    let place : ℕ = get_or s i 0 in
    let more : take (i + 1) s ≡ take i s ++ place ∷ [] = take_more s i 0 within in
    let at : mark g place ≡ Chosen = ap (λ (h : List Mark). mark h place) put ∙ mark_same f place Chosen inside in
    let off : (j : ℕ) → j ≢ place → mark g j ≡ mark f j = λ j other. ap (λ (h : List Mark). mark h j) put ∙ mark_other f place j Chosen other in
    record {
      chosen = (λ j there. elim (cases_eq j place) as (λ _. mark g j ≡ Chosen) [
        | inl same ↦ ap (mark g) same ∙ at
        | inr other ↦ elim (Contains-push_cases (take i s) place j (subst (λ (xs : List ℕ). Contains xs j) more there)) as (λ _. mark g j ≡ Chosen) [
          | inl before ↦ off j other ∙ so_far.chosen j before
          | inr here ↦ absurd (other (sym here))
        ]
      ]);
      left = (λ j below out.
          let other : j ≢ place = λ same. out (subst (λ (xs : List ℕ). Contains xs j) (sym more)
          (subst (λ k. Contains (take i s ++ place ∷ []) k) (sym same) (Contains-push (take i s) place))) in
          off j other ∙ so_far.left j below (λ before. out (subst (λ (xs : List ℕ). Contains xs j) (sym more)
          (Contains-append_left (take i s) (place ∷ []) j before))));
    }

-- no place is chosen yet
pub none_chosen : (n : ℕ) (s : List ℕ) (f : List Mark) → s ≡ [] → ((j : ℕ) → j < n → mark f j ≡ Left) → AreMarksOf n s f
none_chosen n s f nothing left = record {
  chosen = (λ j there. absurd (let is : Contains [] j = subst (λ (xs : List ℕ). Contains xs j) nothing there in omega (arith, is.1)));
  left = (λ j below out. left j below);
}

pub within_left : (f : List Mark) (j : ℕ) → mark f j ≡ Left → j < length f
within_left f j left = within_decided f j (ap is_decided left)

pub within_chosen : (f : List Mark) (j : ℕ) → mark f j ≡ Chosen → j < length f
within_chosen f j chosen = within_decided f j (ap is_decided chosen)
