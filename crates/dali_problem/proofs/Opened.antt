use Rattle.std.proofs.Common.{◌≡◌, ◌≢◌, inl, inr, ℕ, ◌+◌, ◌<◌, ℤ, pos, Bool, true, false, List, [], ◌∷◌, ◌++◌, length, take, get_or, set, refl, ap, sym, ◌∙◌, subst, arith}
use Rattle.std.specs.List.{Contains}
use Rattle.std.proofs.Math.ListN.{replicate}
use Rattle.std.proofs.lemmas.Bool.{cases_lt, cases_eq}
use Rattle.std.proofs.lemmas.Int.{ints}
use Rattle.std.proofs.lemmas.List.{get_or-replicate, get_or_past, length-replicate, get_or-set_same, get_or-set_other, take_more}
use Rattle.std.proofs.lemmas.List.Elements.{Contains-append_left, Contains-push, Contains-push_cases}
use Rattle.dali_problem.specs.declared.line_sum.LineSum.{LineSum}
use Rattle.dali_problem.specs.declared.mark.Mark.{Mark}
use Rattle.dali_problem.specs.declared.mark.Mark.TheVariants.{Stranger, Undecided}
use Rattle.dali_problem.specs.Sums.{sum_below, pick}
use Rattle.dali_problem.specs.Clearing.{Clearing, balance, effect}
use Rattle.dali_problem.specs.Partial.{mark, is_chosen, is_undecided, is_decided}
use Rattle.dali_problem.specs.Kept.{IsOf, AllUndecided, sum_at}
use Rattle.dali_problem.proofs.SumLaws.{sum_below_same, sum_below_zero}

pub all_strangers : (n j : ℕ) → mark (replicate n Stranger) j ≡ Stranger
all_strangers n j = elim (cases_lt j n) as (λ _. mark (replicate n Stranger) j ≡ Stranger) [
  | inl within ↦ get_or-replicate n j Stranger Stranger within
  | inr past ↦ get_or_past (replicate n Stranger) j Stranger (omega (arith, length-replicate n Stranger))
]

none_counted : (test : Mark → Bool) (g : ℕ → ℤ) (f : List Mark) (n : ℕ) → test Stranger ≡ false → ((j : ℕ) → mark f j ≡ Stranger) →
    sum_below (λ j. pick (test (mark f j)) (g j)) n ≡ pos 0
none_counted test g f n out strangers =
    sum_below_same (λ j. pick (test (mark f j)) (g j)) (λ _. pos 0) n
    (λ j below. ap (λ m. pick (test m) (g j)) (strangers j) ∙ ap (λ b. pick b (g j)) out)
    ∙ sum_below_zero n

-- strangers alone leave each line its balance
pub of_strangers : (p : Clearing) (f : List Mark) (sums : List LineSum) → f ≡ replicate (length p.items) Stranger →
    length sums ≡ length p.lines →
    ((l : ℕ) → l < length sums → sum_at sums l ≡ record { held = balance p l; credits = pos 0; debits = pos 0 }) →
    IsOf p (record { marks = f; sums = sums })
of_strangers p f sums is lines start =
    let strangers : (j : ℕ) → mark f j ≡ Stranger = λ j. ap (λ (g : List Mark). mark g j) is ∙ all_strangers (length p.items) j in
    record {
      marks = ap length is ∙ length-replicate (length p.items) Stranger;
      lines = lines;
      held = (λ l below.
          let at : (sum_at sums l).held ≡ balance p l = ap (λ (s : LineSum). s.held) (start l (omega (arith, lines, below))) in
          let none = none_counted is_chosen (λ j. effect p j l) f (length p.items) refl strangers in
          omega (arith, ints, at, none));
      credits = (λ l below.
          ap (λ (s : LineSum). s.credits) (start l (omega (arith, lines, below)))
          ∙ sym (none_counted is_undecided _ f (length p.items) refl strangers));
      debits = (λ l below.
          ap (λ (s : LineSum). s.debits) (start l (omega (arith, lines, below)))
          ∙ sym (none_counted is_undecided _ f (length p.items) refl strangers));
    }

pub none_undecided : (p : Clearing) (f : List Mark) → f ≡ replicate (length p.items) Stranger → AllUndecided f []
none_undecided p f is = record {
  undecided = (λ j there. absurd (omega (arith, there.1)));
  strangers = (λ j out. ap (λ (g : List Mark). mark g j) is ∙ all_strangers (length p.items) j);
}

-- one place more is undecided
pub more_undecided : (f g : List Mark) (members : List ℕ) (i : ℕ) → i < length members → get_or members i 0 < length f →
    g ≡ set f (get_or members i 0) Undecided → AllUndecided f (take i members) → AllUndecided g (take (i + 1) members)
more_undecided f g members i within inside put so_far =
    let place : ℕ = get_or members i 0 in
    let more : take (i + 1) members ≡ take i members ++ place ∷ [] = take_more members i 0 within in
    let at : mark g place ≡ Undecided = ap (λ (h : List Mark). mark h place) put ∙ get_or-set_same f place Undecided Stranger inside in
    let off : (j : ℕ) → j ≢ place → mark g j ≡ mark f j =
    λ j other. ap (λ (h : List Mark). mark h j) put ∙ get_or-set_other f place j Undecided Stranger other in
    record {
      undecided = (λ j there. elim (cases_eq j place) as (λ _. mark g j ≡ Undecided) [
        | inl same ↦ ap (mark g) same ∙ at
        | inr other ↦ elim (Contains-push_cases (take i members) place j (subst (λ (xs : List ℕ). Contains xs j) more there)) as (λ _. mark g j ≡ Undecided) [
          | inl before ↦ off j other ∙ so_far.undecided j before
          | inr here ↦ absurd (other (sym here))
        ]
      ]);
      strangers = (λ j out.
          let other : j ≢ place = λ same. out (subst (λ (xs : List ℕ). Contains xs j) (sym more)
          (subst (λ k. Contains (take i members ++ place ∷ []) k) (sym same) (Contains-push (take i members) place))) in
          off j other ∙ so_far.strangers j (λ before. out (subst (λ (xs : List ℕ). Contains xs j) (sym more)
          (Contains-append_left (take i members) (place ∷ []) j before))));
    }

-- a mark other than Stranger stands within the list
pub within_decided : (f : List Mark) (j : ℕ) → is_decided (mark f j) ≡ true → j < length f
within_decided f j told = elim (cases_lt j (length f)) as (λ _. j < length f) [
  | inl within ↦ within
  | inr past ↦ absurd (let e : is_decided (mark f j) ≡ false = ap is_decided (get_or_past f j Stranger past) in cc)
]

pub within_undecided : (f : List Mark) (j : ℕ) → mark f j ≡ Undecided → j < length f
within_undecided f j told = elim (cases_lt j (length f)) as (λ _. j < length f) [
  | inl within ↦ within
  | inr past ↦ absurd (let e : mark f j ≡ Stranger = get_or_past f j Stranger past in cc)
]
