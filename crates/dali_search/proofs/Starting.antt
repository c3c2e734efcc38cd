use Rattle.std.proofs.Common.{◌≡◌, ◌≢◌, inl, inr, ℕ, zero, suc, ◌+◌, ◌<◌, ◌≤◌, true, List, [], ◌∷◌, ◌++◌, length, get_or, if◌then◌else◌, refl, ap, sym, ◌∙◌, subst, zero-add, arith}
use Rattle.std.specs.List.{Contains, range_with_len}
use Rattle.std.proofs.lemmas.Bool.{cases_lt}
use Rattle.std.proofs.lemmas.Int.{ints}
use Rattle.std.proofs.lemmas.List.{ext_get_or}
use Rattle.std.proofs.lemmas.List.FromFn.{length-range_with_len, get_or-range_with_len}
use Rattle.std.proofs.lemmas.List.Elements.{All-from_get_or}
use Rattle.dali_problem.specs.declared.mark.Mark.{Mark}
use Rattle.dali_problem.specs.declared.mark.Mark.TheVariants.{Stranger, Undecided, Chosen, Left}
use Rattle.dali_problem.specs.Clearing.{Clearing}
use Rattle.dali_problem.specs.Feasible.{ArePlaces, IsFeasible, has}
use Rattle.dali_problem.specs.Partial.{mark, is_undecided, Agrees}
use Rattle.dali_tree.specs.Fits.{AreRising}
use Rattle.dali_rest.specs.Room.{undecided_below}
use Rattle.dali_check.proofs.Entering.{has_of, opened_at, opened_length, opened_past}
use Rattle.dali_search.specs.Start.{all_places, start_of}

pub places_length : (n : ℕ) → length (all_places n) ≡ n
places_length n = length-range_with_len 0 n

pub places_at : (n k d : ℕ) → k < n → get_or (all_places n) k d ≡ k
places_at n k d below = get_or-range_with_len 0 n k d below ∙ zero-add k

pub has_place : (n j : ℕ) → j < n → has (all_places n) j ≡ true
has_place n j below = has_of (all_places n) j (j, omega (arith, below, places_length n), places_at n j j below)

pub places_rise : (n : ℕ) → AreRising n (all_places n)
places_rise n = record {
  rising = (λ i j d before within.
      let low : i < n = omega (arith, before, within, places_length n) in
      let high : j < n = omega (arith, within, places_length n) in
      omega (arith, before, places_at n i d low, places_at n j d high));
  in_range = All-from_get_or (λ (i : ℕ). i < n) (all_places n) 0 (λ k below.
      let within : k < n = omega (arith, below, places_length n) in
      omega (arith, within, places_at n k 0 within));
}

-- all places are undecided at the start, and nothing stands past them
pub start_at : (p : Clearing) (j : ℕ) → j < length p.items → mark (start_of p) j ≡ Undecided
start_at p j below = opened_at (length p.items) (all_places (length p.items)) j below
    ∙ ap (λ b. if b then Undecided else Stranger) (has_place (length p.items) j below)

pub start_past : (p : Clearing) (j : ℕ) → length p.items ≤ j → mark (start_of p) j ≡ Stranger
start_past p j past = opened_past (length p.items) (all_places (length p.items)) j past

pub start_length : (p : Clearing) → length (start_of p) ≡ length p.items
start_length p = opened_length (length p.items) (all_places (length p.items))

-- marks that are all undecided are those of the start
pub is_start : (p : Clearing) (f : List Mark) → length f ≡ length p.items → ((j : ℕ) → j < length p.items → mark f j ≡ Undecided) → f ≡ start_of p
is_start p f size each = ext_get_or Stranger f (start_of p) (size ∙ sym (start_length p)) (λ j below.
    let within : j < length p.items = omega (arith, below, size) in
    each j within ∙ sym (start_at p j within))

undecided_stranger : Undecided ≡ Stranger → ⊥
undecided_stranger is = cc

undecided_left : Undecided ≡ Left → ⊥
undecided_left is = cc

undecided_chosen : Undecided ≡ Chosen → ⊥
undecided_chosen is = cc

stranger_chosen : Stranger ≡ Chosen → ⊥
stranger_chosen is = cc

pub start_member : (p : Clearing) (j : ℕ) → j < length p.items → mark (start_of p) j ≢ Stranger
start_member p j below is = undecided_stranger (sym (start_at p j below) ∙ is)

-- each set of places agrees with the start
pub start_agrees : (p : Clearing) (t : List ℕ) → ArePlaces p t → Agrees (start_of p) t
start_agrees p t places =
    let within : (j : ℕ) → Contains t j → j < length p.items = λ j there.
    subst (λ (k : ℕ). k < length p.items) there.2 (places.in_range there.0 j there.1) in
    record {
      members = (λ j there. start_member p j (within j there));
      chosen = (λ j is. absurd (elim (cases_lt j (length p.items)) as (λ _. ⊥) [
        | inl below ↦ undecided_chosen (sym (start_at p j below) ∙ is)
        | inr past ↦ stranger_chosen (sym (start_past p j past) ∙ is)
      ]));
      left = (λ j there is. undecided_left (sym (start_at p j (within j there)) ∙ is));
    }

-- the empty set is feasible
pub none_places : (p : Clearing) → ArePlaces p []
none_places p = record {
  rising = (λ i j d before within. absurd (omega (arith, within)));
  in_range = (λ k d within. absurd (omega (arith, within)));
}

pub none_feasible : (p : Clearing) → IsFeasible p []
none_feasible p = record { covered = (λ l below. omega (arith, ints)) }

-- the undecided places at the start are all places
pub places_more : (n : ℕ) → all_places (suc n) ≡ all_places n ++ n ∷ []
places_more n = from 0 n ∙ ap (λ (k : ℕ). all_places n ++ k ∷ []) (zero-add n)
  where
    from : (a n : ℕ) → range_with_len a (suc n) ≡ range_with_len a n ++ (a + n) ∷ []
    from a zero =
        let same : a ≡ a + 0 = omega arith in
        ap (λ (k : ℕ). k ∷ []) same
    from a (suc n) =
        let same : a + 1 + n ≡ a + suc n = omega arith in
        ap (λ (xs : List ℕ). a ∷ xs) (from (a + 1) n ∙ ap (λ (k : ℕ). range_with_len (a + 1) n ++ k ∷ []) same)

below_all : (p : Clearing) (n : ℕ) → n ≤ length p.items → undecided_below (start_of p) n ≡ all_places n
below_all p zero most = refl
below_all p (suc n) most =
    ap (λ (m : Mark). undecided_below (start_of p) n ++ (if is_undecided m then n ∷ [] else [])) (start_at p n (omega arith))
    ∙ ap (λ (xs : List ℕ). xs ++ n ∷ []) (below_all p n (omega arith))
    ∙ sym (places_more n)

pub all_undecided : (p : Clearing) → undecided_below (start_of p) (length p.items) ≡ all_places (length p.items)
all_undecided p = below_all p (length p.items) (omega arith)
