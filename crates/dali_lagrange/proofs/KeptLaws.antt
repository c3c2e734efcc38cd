use Rattle.std.proofs.Common.{◌≡◌, inl, inr, ℕ, ◌<◌, ◌-◌, ◌≤◌, ◌^◌, ℤ, pos, ◌+ℤ◌, ◌-ℤ◌, ◌*ℤ◌, List, length, [], get_or, set, ap, sym, ◌∙◌, subst, arith}
use Rattle.std.specs.List.{All}
use Rattle.std.proofs.Math.ListN.{replicate}
use Rattle.std.proofs.lemmas.Int.{ints}
use mir.Syntax.{w128}
use mir.Val.{to_z, of_z}
use Rattle.std.proofs.lemmas.Bool.{cases_lt}
use Rattle.std.proofs.lemmas.List.{get_or-set_same, get_or-set_other, get_or_past, length-set, ext_get_or, set-get_or, get_or-replicate, length-replicate}
use Rattle.std.proofs.lemmas.List.Elements.{All-get_or, All-from_get_or}
use Rattle.dali_problem.specs.declared.columns.Touch.{Touch}
use Rattle.dali_problem.specs.declared.mark.Mark.{Mark}
use Rattle.dali_problem.specs.declared.mark.Mark.TheVariants.{Stranger}
use Rattle.dali_problem.specs.Sums.{sum_over}
use Rattle.dali_problem.specs.Clearing.{Clearing, balance, worth}
use Rattle.dali_problem.specs.Limits.{Within, IsProblem}
use Rattle.dali_problem.specs.Partial.{mark}
use Rattle.dali_problem.specs.Touches.{touches, column_at}
use Rattle.dali_problem.proofs.Lines.{balance_small}
use Rattle.dali_problem.proofs.SumLaws.{sum_below_change}
use Rattle.dali_lagrange.specs.Best.{sum_with}
use Rattle.dali_lagrange.specs.Bound.{reduced, sum_of, count_of}
use Rattle.dali_lagrange.specs.KeptSum.{KeptSum, IsSumOf}
use Rattle.dali_lagrange.specs.Touched.{AreTouches, at_place, shifted, reduced_in, touch_rise}
use Rattle.dali_lagrange.proofs.Moved.{reduced_same, sum_same, reduced_set, sum_moved, reduced_small, sum_small}
use Rattle.dali_lagrange.proofs.Sizes.{product_within}
use Rattle.dali_lagrange.proofs.Zero.{zero_reduced}
use Rattle.dali_lagrange.proofs.Touching.{place_sum, touches_are}
use Rattle.dali_lagrange.proofs.Whole.{lines_and_places}

-- each multiplier is at most 2^44, and 0 past the last line
pub bounded_at : (point : List ℕ) → All (λ m. m ≤ 2 ^ 44) point → (l : ℕ) → get_or point l 0 ≤ 2 ^ 44
bounded_at point bounded l = elim (cases_lt l (length point)) as (λ _. get_or point l 0 ≤ 2 ^ 44) [
  | inl within ↦ All-get_or (λ m. m ≤ 2 ^ 44) point l 0 within bounded
  | inr past ↦ subst (λ m. m ≤ 2 ^ 44) (sym (get_or_past point l 0 past)) (omega arith)
]

-- one place's mark is another
sum_turned : (p : Clearing) (f : List Mark) (lam : ℕ → ℕ) (j : ℕ) (to : Mark) → j < length f → j < length p.items →
    sum_of p (set f j to) lam ≡ sum_of p f lam +ℤ (count_of to (reduced p lam j) -ℤ count_of (mark f j) (reduced p lam j))
sum_turned p f lam j to inside within =
    let change = sum_below_change (λ i. count_of (mark f i) (reduced p lam i)) (λ i. count_of (mark (set f j to) i) (reduced p lam i)) (length p.items) j within
    (λ i below off. ap (λ m. count_of m (reduced p lam i)) (get_or-set_other f j i to Stranger off)) in
    let here : count_of (mark (set f j to) j) (reduced p lam j) ≡ count_of to (reduced p lam j) =
    ap (λ m. count_of m (reduced p lam j)) (get_or-set_same f j to Stranger inside) in
    omega (arith, ints, change, here, lines_and_places p f lam, lines_and_places p (set f j to) lam)

pub turned : (p : Clearing) (k : KeptSum) (j : ℕ) (to : Mark) (z : ℤ) → IsSumOf p k → j < length p.items →
    z ≡ k.total +ℤ (count_of to (reduced_in k.reduced j) -ℤ count_of (mark k.marks j) (reduced_in k.reduced j)) →
    IsSumOf p (record { marks = set k.marks j to; multipliers = k.multipliers; reduced = k.reduced; total = z; columns = k.columns })
turned p k j to z of within is =
    let worth_is = of.reduced j within in
    let up : count_of to (reduced_in k.reduced j) ≡ count_of to (reduced p (λ l. get_or k.multipliers l 0) j) = ap (count_of to) worth_is in
    let down : count_of (mark k.marks j) (reduced_in k.reduced j) ≡ count_of (mark k.marks j) (reduced p (λ l. get_or k.multipliers l 0) j) = ap (count_of (mark k.marks j)) worth_is in
    let sum = sum_turned p k.marks (λ l. get_or k.multipliers l 0) j to (omega (arith, of.marks, within)) within in
    record {
      marks = length-set k.marks j to ∙ of.marks;
      multipliers = of.multipliers;
      places = of.places;
      reduced = of.reduced;
      total = omega (arith, ints, is, up, down, sum, of.total);
      lines = of.lines;
      columns = of.columns;
    }

-- the Sum with the multiplier that a line has is the Sum
pub sum_with_own : (p : Clearing) (f : List Mark) (point : List ℕ) (l : ℕ) → sum_with p f point l (get_or point l 0) ≡ sum_of p f (λ i. get_or point i 0)
unfolding sum_with
sum_with_own p f point l = ap (λ (ms : List ℕ). sum_of p f (λ i. get_or ms i 0)) (set-get_or point l 0)

-- one line's multiplier is another
pub line_set : (p : Clearing) (k : KeptSum) (l to : ℕ) (old values : List ℤ) (ts : List Touch) (by r z : ℤ) → IsSumOf p k → l < length p.lines →
    old ≡ k.reduced → length values ≡ length old → ts ≡ column_at k.columns l → by ≡ pos to -ℤ pos (get_or k.multipliers l 0) →
    ((j : ℕ) → j < length values → reduced_in values j ≡ shifted (reduced_in old j) by (sum_over (at_place j) ts)) →
    r ≡ sum_with p k.marks k.multipliers l to -ℤ sum_with p k.marks k.multipliers l (get_or k.multipliers l 0) →
    z ≡ k.total +ℤ r →
    IsSumOf p (record { marks = k.marks; multipliers = set k.multipliers l to; reduced = values; total = z; columns = k.columns })
unfolding sum_with
line_set p k l to old values ts by r z of within were size column by_is shift rise is =
    let own = sum_with_own p k.marks k.multipliers l in
    record {
      marks = of.marks;
      multipliers = length-set k.multipliers l to ∙ of.multipliers;
      places = size ∙ ap length were ∙ of.places;
      reduced = (λ j below.
          let inside : j < length values = omega (arith, size, ap (λ (rs : List ℤ). length rs) were, of.places, below) in
          shift j inside
          ∙ ap (λ (rs : List ℤ). shifted (reduced_in rs j) by (sum_over (at_place j) ts)) were
          ∙ ap (λ z. shifted (reduced_in k.reduced j) z (sum_over (at_place j) ts)) by_is
          ∙ ap (λ r. shifted r (pos to -ℤ pos (get_or k.multipliers l 0)) (sum_over (at_place j) ts)) (of.reduced j below)
          ∙ ap (λ (us : List Touch). shifted (reduced p (λ i. get_or k.multipliers i 0) j) (pos to -ℤ pos (get_or k.multipliers l 0)) (sum_over (at_place j) us)) (column ∙ of.columns l within)
          ∙ ap (shifted (reduced p (λ i. get_or k.multipliers i 0) j) (pos to -ℤ pos (get_or k.multipliers l 0))) (place_sum p l j below)
          ∙ sym (reduced_set p k.multipliers l to j of.multipliers within));
      total = omega (arith, ints, is, rise, own, of.total);
      lines = of.lines;
      columns = of.columns;
    }

-- the touches that are kept
pub touching : (p : Clearing) (k : KeptSum) (l n : ℕ) (ts : List Touch) → IsProblem p → IsSumOf p k → l < length p.lines → ts ≡ column_at k.columns l →
    n ≡ length p.items → AreTouches n ts
touching p k l n ts limits of within column size =
    subst (AreTouches n) (sym (column ∙ of.columns l within)) (subst (λ m. AreTouches m (touches p l)) (sym size) (touches_are p l limits))

-- how much the Sum changes, from what is kept
pub rise_is : (p : Clearing) (k : KeptSum) (l from to : ℕ) (f : List Mark) (values : List ℤ) (ts : List Touch) (by down up b t r : ℤ) → IsSumOf p k → l < length p.lines →
    f ≡ k.marks → values ≡ k.reduced → ts ≡ column_at k.columns l → by ≡ pos to -ℤ pos from →
    down ≡ pos from -ℤ pos (get_or k.multipliers l 0) → up ≡ pos to -ℤ pos (get_or k.multipliers l 0) → b ≡ balance p l →
    t ≡ pos 0 +ℤ by *ℤ b → r ≡ t +ℤ sum_over (touch_rise f values down up) ts →
    r ≡ sum_with p k.marks k.multipliers l to -ℤ sum_with p k.marks k.multipliers l from
rise_is p k l from to f values ts by down up b t r of within marks reds column by_is down_is up_is bal start sum =
    let whole = sum_moved p k.marks k.multipliers k.reduced l from to of.multipliers within of.reduced in
    let first : by *ℤ b ≡ (pos to -ℤ pos from) *ℤ balance p l = ap (λ z. z *ℤ b) by_is ∙ ap (λ z. (pos to -ℤ pos from) *ℤ z) bal in
    let second : sum_over (touch_rise f values down up) ts
    ≡ sum_over (touch_rise k.marks k.reduced (pos from -ℤ pos (get_or k.multipliers l 0)) (pos to -ℤ pos (get_or k.multipliers l 0))) (touches p l) =
    ap (λ (g : List Mark). sum_over (touch_rise g values down up) ts) marks
    ∙ ap (λ (rs : List ℤ). sum_over (touch_rise k.marks rs down up) ts) reds
    ∙ ap (λ z. sum_over (touch_rise k.marks k.reduced z up) ts) down_is
    ∙ ap (λ z. sum_over (touch_rise k.marks k.reduced (pos from -ℤ pos (get_or k.multipliers l 0)) z) ts) up_is
    ∙ ap (sum_over (touch_rise k.marks k.reduced (pos from -ℤ pos (get_or k.multipliers l 0)) (pos to -ℤ pos (get_or k.multipliers l 0)))) (column ∙ of.columns l within) in
    omega (arith, ints, whole, first, second, start, sum)

-- what is kept is small
pub kept_small : (p : Clearing) (k : KeptSum) → IsProblem p → IsSumOf p k → All (λ m. m ≤ 2 ^ 44) k.multipliers → Within (2 ^ 117 - 1) k.total
kept_small p k limits of bounded =
    subst (Within (2 ^ 117 - 1)) (sym of.total) (sum_small p k.marks (λ l. get_or k.multipliers l 0) limits (bounded_at k.multipliers bounded))

pub values_small : (p : Clearing) (k : KeptSum) → IsProblem p → IsSumOf p k → All (λ m. m ≤ 2 ^ 44) k.multipliers → All (Within (2 ^ 103)) k.reduced
values_small p k limits of bounded = All-from_get_or (Within (2 ^ 103)) k.reduced (pos 0) (λ j below.
    let inside : j < length p.items = omega (arith, of.places, below) in
    subst (Within (2 ^ 103)) (sym (of.reduced j inside)) (reduced_small p (λ l. get_or k.multipliers l 0) j limits (bounded_at k.multipliers bounded) inside))

-- two that have the same marks and multipliers are the same: what is changed and changed back is as it was
pub same_kept : (p : Clearing) (a b : KeptSum) → IsSumOf p a → IsSumOf p b → a.marks ≡ b.marks → a.multipliers ≡ b.multipliers → a ≡ b
same_kept p a b of_a of_b marks multipliers =
    let reduced_is : a.reduced ≡ b.reduced = ext_get_or (pos 0) a.reduced b.reduced (of_a.places ∙ sym of_b.places) (λ j below.
    let inside : j < length p.items = omega (arith, of_a.places, below) in
    of_a.reduced j inside ∙ ap (λ (ms : List ℕ). reduced p (λ l. get_or ms l 0) j) multipliers ∙ sym (of_b.reduced j inside)) in
    let total : a.total ≡ b.total = of_a.total
    ∙ ap (λ (f : List Mark). sum_of p f (λ l. get_or a.multipliers l 0)) marks
    ∙ ap (λ (ms : List ℕ). sum_of p b.marks (λ l. get_or ms l 0)) multipliers
    ∙ sym of_b.total in
    let columns : a.columns ≡ b.columns = ext_get_or [] a.columns b.columns (of_a.lines ∙ sym of_b.lines) (λ l below.
    let inside : l < length p.lines = omega (arith, of_a.lines, below) in
    of_a.columns l inside ∙ sym (of_b.columns l inside)) in
    ap (λ (f : List Mark). record { marks = f; multipliers = a.multipliers; reduced = a.reduced; total = a.total; columns = a.columns }) marks
    ∙ ap (λ (ms : List ℕ). record { marks = b.marks; multipliers = ms; reduced = a.reduced; total = a.total; columns = a.columns }) multipliers
    ∙ ap (λ (rs : List ℤ). record { marks = b.marks; multipliers = b.multipliers; reduced = rs; total = a.total; columns = a.columns }) reduced_is
    ∙ ap (λ (z : ℤ). record { marks = b.marks; multipliers = b.multipliers; reduced = b.reduced; total = z; columns = a.columns }) total
    ∙ ap (λ (cs : List (List Touch)). record { marks = b.marks; multipliers = b.multipliers; reduced = b.reduced; total = b.total; columns = cs }) columns

-- a balance times a rise of its line's multiplier
pub balance_rise : (p : Clearing) (l : ℕ) (by r b t : ℤ) → IsProblem p → b ≡ balance p l → by ≡ r → Within (2 ^ 44) r → t ≡ pos 0 +ℤ by *ℤ b → Within (2 ^ 105) t
balance_rise p l by r b t limits row same rise is =
    let most = balance_small p l limits in
    let factor : Within (2 ^ 44) by = subst (Within (2 ^ 44)) (sym same) rise in
    let amount : Within (2 ^ 60) b = record { low = omega (arith, ints, row, most.0); high = omega (arith, ints, row, most.1) } in
    let small = product_within (2 ^ 44) (2 ^ 60) by b factor amount in
    record { low = omega (arith, ints, is, small.low); high = omega (arith, ints, is, small.high) }

pub stored_small : (z : ℤ) → Within (2 ^ 105) z → to_z w128 (of_z w128 z) ≡ z
stored_small z small = omega (arith, ints, small.low, small.high)

-- where a choice stands at the start
pub start_is : (p : Clearing) (f : List Mark) (ms : List ℕ) (values : List ℤ) (z : ℤ) (columns : List (List Touch)) → length f ≡ length p.items →
    ms ≡ replicate (length p.lines) 0 → length values ≡ length p.items →
    ((j : ℕ) → j < length p.items → reduced_in values j ≡ pos 4096 *ℤ pos (worth p j)) → z ≡ sum_of p f (λ _. 0) →
    length columns ≡ length p.lines → ((l : ℕ) → l < length columns → column_at columns l ≡ touches p l) →
    IsSumOf p (record { marks = f; multipliers = ms; reduced = values; total = z; columns = columns })
start_is p f ms values z columns marks zeros places exact sum lines touched =
    let none : (l : ℕ) → l < length p.lines → get_or ms l 0 ≡ 0 = λ l below. ap (λ (ns : List ℕ). get_or ns l 0) zeros ∙ get_or-replicate (length p.lines) l 0 0 below in
    record {
      marks = marks;
      multipliers = ap length zeros ∙ length-replicate (length p.lines) 0;
      places = places;
      reduced = (λ j below. exact j below ∙ sym (zero_reduced p j) ∙ sym (reduced_same p (λ l. get_or ms l 0) (λ _. 0) j none));
      total = sum ∙ sym (sum_same p f (λ l. get_or ms l 0) (λ _. 0) none);
      lines = lines;
      columns = (λ l below. touched l (omega (arith, lines, below)));
    }
