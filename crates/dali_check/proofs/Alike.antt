use Rattle.std.proofs.Common.{◌≡◌, inl, inr, ℕ, zero, suc, ◌<◌, ℤ, pos, ◌+ℤ◌, ◌*ℤ◌, Bool, true, false, ◌&&◌, ◌||◌, not, List, [], ◌∷◌, length, set, Option, None, if◌then◌else◌, refl, ap, sym, ◌∙◌, arith}
use Rattle.std.specs.Int.{int_max, int_min}
use Rattle.std.proofs.lemmas.Bool.{cases_lt, cases_eq}
use Rattle.std.proofs.lemmas.List.{get_or-set_same, get_or-set_other, get_or_past, length-set}
use Rattle.dali_problem.specs.declared.mark.Mark.{Mark}
use Rattle.dali_problem.specs.declared.mark.Mark.TheVariants.{Stranger, Chosen, Left}
use Rattle.dali_problem.specs.Sums.{sum_below, pick}
use Rattle.dali_problem.specs.Clearing.{Clearing, balance, worth, effect}
use Rattle.dali_problem.specs.Partial.{mark, is_chosen, is_undecided, held}
use Rattle.dali_problem.specs.Rules.{is_negative, credits, debits, is_short, is_barred, is_needed, is_covered, all_below, is_safe}
use Rattle.dali_problem.proofs.SumLaws.{sum_below_same}
use Rattle.dali_tree.specs.declared.fix.Fix.{Fix}
use Rattle.dali_tree.specs.declared.fix.Fix.TheVariants.{Barred, Needed, Safe}
use Rattle.dali_lagrange.specs.Bound.{reduced, sum_of}
use Rattle.dali_fixes.specs.Fixed.{place_of, becomes, holds, after}
use Rattle.dali_check.specs.Sides.{when_fixed}

-- two partial choices whose undecided and chosen places are the same: a place that is left counts as a stranger does
pub record Like (f g : List Mark) : Type 0 where
  pub size : length f ≡ length g
  pub undecided : (j : ℕ) → is_undecided (mark f j) ≡ is_undecided (mark g j)
  pub chosen : (j : ℕ) → is_chosen (mark f j) ≡ is_chosen (mark g j)

-- a test that tells the same of both
pub record Respects (test : List Mark → Bool) : Type 0 where
  pub same : (f g : List Mark) → Like f g → test f ≡ test g

mark_set : (f g : List Mark) (j i : ℕ) (m : Mark) (of : Mark → Bool) → length f ≡ length g → of (mark f i) ≡ of (mark g i) →
    of (mark (set f j m) i) ≡ of (mark (set g j m) i)
mark_set f g j i m of size same = elim (cases_eq i j) as (λ _. of (mark (set f j m) i) ≡ of (mark (set g j m) i)) [
  | inl here ↦ elim (cases_lt j (length f)) as (λ _. of (mark (set f j m) i) ≡ of (mark (set g j m) i)) [
    | inl within ↦
        let inside : j < length g = omega (arith, within, size) in
        ap (λ k. of (mark (set f j m) k)) here
        ∙ ap of (get_or-set_same f j m Stranger within)
        ∙ sym (ap of (get_or-set_same g j m Stranger inside))
        ∙ sym (ap (λ k. of (mark (set g j m) k)) here)
    | inr past ↦
        let out_f : mark (set f j m) i ≡ Stranger = get_or_past (set f j m) i Stranger (omega (arith, here, past, length-set f j m)) in
        let out_g : mark (set g j m) i ≡ Stranger = get_or_past (set g j m) i Stranger (omega (arith, here, past, size, length-set g j m)) in
        ap of (out_f ∙ sym out_g)
  ]
  | inr other ↦
      ap of (get_or-set_other f j i m Stranger other) ∙ same ∙ sym (ap of (get_or-set_other g j i m Stranger other))
]

pub like_set : (f g : List Mark) (j : ℕ) (m : Mark) → Like f g → Like (set f j m) (set g j m)
like_set f g j m like = record {
  size = length-set f j m ∙ like.size ∙ sym (length-set g j m);
  undecided = (λ i. mark_set f g j i m is_undecided like.size (like.undecided i));
  chosen = (λ i. mark_set f g j i m is_chosen like.size (like.chosen i));
}

pub held_like : (p : Clearing) (f g : List Mark) (l : ℕ) → Like f g → held p f l ≡ held p g l
held_like p f g l like = ap (λ z. balance p l +ℤ z)
    (sum_below_same (λ j. pick (is_chosen (mark f j)) (effect p j l)) (λ j. pick (is_chosen (mark g j)) (effect p j l)) (length p.items)
    (λ j below. ap (λ b. pick b (effect p j l)) (like.chosen j)))

open_like : (a : ℕ → ℤ) (n : ℕ) (f g : List Mark) → Like f g →
    sum_below (λ j. pick (is_undecided (mark f j)) (a j)) n ≡ sum_below (λ j. pick (is_undecided (mark g j)) (a j)) n
open_like a n f g like = sum_below_same (λ j. pick (is_undecided (mark f j)) (a j)) (λ j. pick (is_undecided (mark g j)) (a j)) n
    (λ j below. ap (λ b. pick b (a j)) (like.undecided j))

pub sum_like : (p : Clearing) (f g : List Mark) (lam : ℕ → ℕ) → Like f g → sum_of p f lam ≡ sum_of p g lam
unfolding sum_of
sum_like p f g lam like =
    let chosen = sum_below_same (λ j. pick (is_chosen (mark f j)) (pos (worth p j))) (λ j. pick (is_chosen (mark g j)) (pos (worth p j))) (length p.items)
    (λ j below. ap (λ b. pick b (pos (worth p j))) (like.chosen j)) in
    let lines = sum_below_same (λ l. pos (lam l) *ℤ held p f l) (λ l. pos (lam l) *ℤ held p g l) (length p.lines)
    (λ l below. ap (λ z. pos (lam l) *ℤ z) (held_like p f g l like)) in
    let open_ones = open_like (λ j. int_max (pos 0) (reduced p lam j)) (length p.items) f g like in
    ap (λ z. pos 4096 *ℤ z +ℤ sum_below (λ l. pos (lam l) *ℤ held p f l) (length p.lines)
    +ℤ sum_below (λ j. pick (is_undecided (mark f j)) (int_max (pos 0) (reduced p lam j))) (length p.items)) chosen
    ∙ ap (λ z. pos 4096 *ℤ sum_below (λ j. pick (is_chosen (mark g j)) (pos (worth p j))) (length p.items) +ℤ z
    +ℤ sum_below (λ j. pick (is_undecided (mark f j)) (int_max (pos 0) (reduced p lam j))) (length p.items)) lines
    ∙ ap (λ z. pos 4096 *ℤ sum_below (λ j. pick (is_chosen (mark g j)) (pos (worth p j))) (length p.items)
    +ℤ sum_below (λ l. pos (lam l) *ℤ held p g l) (length p.lines) +ℤ z) open_ones

pub short_like : (p : Clearing) (f g : List Mark) (l : ℕ) → Like f g → is_short p f l ≡ is_short p g l
short_like p f g l like =
    ap (λ z. is_negative (z +ℤ credits p f l)) (held_like p f g l like)
    ∙ ap (λ z. is_negative (held p g l +ℤ z)) (open_like (λ j. int_max (pos 0) (effect p j l)) (length p.items) f g like)

pub both : (a b c d : Bool) → a ≡ b → c ≡ d → (a && c) ≡ (b && d)
both a b c d first second = ap (λ x. x && c) first ∙ ap (λ x. b && x) second

pub barred_like : (p : Clearing) (f g : List Mark) (j l : ℕ) → Like f g → is_barred p f j l ≡ is_barred p g j l
barred_like p f g j l like = both (is_undecided (mark f j)) (is_undecided (mark g j)) (is_short p (set f j Chosen) l) (is_short p (set g j Chosen) l)
    (like.undecided j) (short_like p (set f j Chosen) (set g j Chosen) l (like_set f g j Chosen like))

pub needed_like : (p : Clearing) (f g : List Mark) (j l : ℕ) → Like f g → is_needed p f j l ≡ is_needed p g j l
needed_like p f g j l like = both (is_undecided (mark f j)) (is_undecided (mark g j)) (is_short p (set f j Left) l) (is_short p (set g j Left) l)
    (like.undecided j) (short_like p (set f j Left) (set g j Left) l (like_set f g j Left like))

pub all_below_same : (s t : ℕ → Bool) (n : ℕ) → ((k : ℕ) → k < n → s k ≡ t k) → all_below s n ≡ all_below t n
all_below_same s t zero same = refl
all_below_same s t (suc n) same = both (s n) (t n) (all_below s n) (all_below t n) (same n (omega arith))
    (all_below_same s t n (λ k below. same k (omega arith)))

pub safe_like : (p : Clearing) (f g : List Mark) (j : ℕ) → Like f g → is_safe p f j ≡ is_safe p g j
safe_like p f g j like =
    let covered : (l : ℕ) → is_covered p f l ≡ is_covered p g l = λ l.
    ap (λ z. not (is_negative (z +ℤ debits p f l))) (held_like p f g l like)
    ∙ ap (λ z. not (is_negative (held p g l +ℤ z))) (open_like (λ i. int_min (pos 0) (effect p i l)) (length p.items) f g like) in
    both (is_undecided (mark f j)) (is_undecided (mark g j))
    (all_below (λ l. not (is_negative (effect p j l)) || is_covered p f l) (length p.lines))
    (all_below (λ l. not (is_negative (effect p j l)) || is_covered p g l) (length p.lines))
    (like.undecided j)
    (all_below_same (λ l. not (is_negative (effect p j l)) || is_covered p f l) (λ l. not (is_negative (effect p j l)) || is_covered p g l) (length p.lines)
    (λ l below. ap (λ b. not (is_negative (effect p j l)) || b) (covered l)))

holds_like : (p : Clearing) (f g : List Mark) (fix : Fix) → Like f g → holds p f fix ≡ holds p g fix
unfolding holds
holds_like p f g (Barred j l) like = barred_like p f g j l like
holds_like p f g (Needed j l) like = needed_like p f g j l like
holds_like p f g (Safe j) like = safe_like p f g j like

-- fixes lead both to partial choices that are alike
pub fixed_like : (p : Clearing) (fixes : List Fix) (test : List Mark → Bool) (f g : List Mark) → Respects test → Like f g →
    when_fixed (after p fixes f) test ≡ when_fixed (after p fixes g) test
fixed_like p [] test f g respects like = respects.same f g like
fixed_like p (fix ∷ fixes) test f g respects like =
    let to_f : List Mark = set f (place_of fix) (becomes fix) in
    let to_g : List Mark = set g (place_of fix) (becomes fix) in
    let next : when_fixed (after p fixes to_f) test ≡ when_fixed (after p fixes to_g) test =
    fixed_like p fixes test to_f to_g respects (like_set f g (place_of fix) (becomes fix) like) in
    ap (λ b. when_fixed (if b then after p fixes to_f else None) test) (holds_like p f g fix like)
    ∙ either (holds p g fix) (after p fixes to_f) (after p fixes to_g) test next
  where
    either : (b : Bool) (x y : Option (List Mark)) (test : List Mark → Bool) → when_fixed x test ≡ when_fixed y test →
        when_fixed (if b then x else None) test ≡ when_fixed (if b then y else None) test
    either true x y test same = same
    either false x y test same = refl
