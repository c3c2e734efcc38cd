use Rattle.std.proofs.Common.{◌≡◌, ◌≢◌, inl, inr, ℕ, ◌+◌, ◌*◌, ◌^◌, ◌<◌, ◌≤◌, ℤ, pos, ◌+ℤ◌, ◌-ℤ◌, Bool, true, false, List, [], ◌∷◌, ◌++◌, length, take, drop, get_or, set, refl, ap, sym, ◌∙◌, arith}
use Rattle.std.specs.List.{All, AllPairs}
use Rattle.std.specs.Int.{int_max, int_min}
use Rattle.std.proofs.lemmas.Bool.Decides.{eqb_tells}
use Rattle.std.proofs.lemmas.Int.{ints, clamps}
use Rattle.std.proofs.lemmas.List.{get_or-set_same, get_or-set_other, get_or-take, get_or-drop, length-take-le, length-drop, length-set, drop_more, take-append-drop}
use Rattle.std.proofs.lemmas.List.Elements.{All-head, All-tail, All-from_get_or}
use Rattle.dali_problem.specs.declared.row.Effect.{Effect}
use Rattle.dali_problem.specs.declared.line_sum.LineSum.{LineSum}
use Rattle.dali_problem.specs.declared.mark.Mark.{Mark}
use Rattle.dali_problem.specs.declared.mark.Mark.TheVariants.{Stranger}
use Rattle.dali_problem.specs.Sums.{sum_below, sum_over, pick}
use Rattle.dali_problem.specs.Clearing.{Clearing, effect, on_line}
use Rattle.dali_problem.specs.Limits.{Within, AreEffects, IsProblem}
use Rattle.dali_problem.specs.Partial.{mark, is_chosen, is_undecided, held}
use Rattle.dali_problem.specs.Rules.{credits, debits}
use Rattle.dali_problem.specs.Kept.{Kept, IsOf, IsSmall, no_sum, sum_at, moved}
use Rattle.dali_problem.proofs.SumLaws.{sum_over_append, sum_over_more, sum_below_change, sum_below_within}
use Rattle.dali_problem.proofs.Lines.{on_same, on_other, effect_small, balance_small}

-- no effect stands on the line
pub none_on : (l : ℕ) (es : List Effect) → All (λ e. e.line ≢ l) es → sum_over (on_line l) es ≡ pos 0
none_on l [] none = refl
none_on l (e ∷ es) none =
    let first = All-head (λ (x : Effect). x.line ≢ l) e es none in
    let rest : sum_over (on_line l) es ≡ pos 0 = none_on l es (All-tail (λ (x : Effect). x.line ≢ l) e es none) in
    let here : on_line l e ≡ pos 0 = elim (eqb_tells e.line l) as (λ _. on_line l e ≡ pos 0) [
      | inl same ↦ absurd (first same.1)
      | inr other ↦ on_other e l other.0
    ] in
    omega (arith, ints)

-- on rising lines no earlier effect stands on the line of this one, and no later one
pub none_earlier : (es : List Effect) (i : ℕ) (d : Effect) → AllPairs (λ (a b : Effect). a.line < b.line) es → i < length es →
    sum_over (on_line (get_or es i d).line) (take i es) ≡ pos 0
none_earlier es i d rising within =
    none_on (get_or es i d).line (take i es) (All-from_get_or (λ (e : Effect). e.line ≢ (get_or es i d).line) (take i es) d (λ k below.
    let size : length (take i es) ≡ i = length-take-le i es (omega arith) in
    let less : k < i = omega arith in
    let same : get_or (take i es) k d ≡ get_or es k d = get_or-take i es k d less in
    let rises : (get_or es k d).line < (get_or es i d).line = rising k i d less within in
    let line : (get_or (take i es) k d).line ≡ (get_or es k d).line = ap (λ (e : Effect). e.line) same in
    (λ q. absurd (omega arith))))

none_later : (es : List Effect) (i : ℕ) (d : Effect) → AllPairs (λ (a b : Effect). a.line < b.line) es → i < length es →
    sum_over (on_line (get_or es i d).line) (drop (i + 1) es) ≡ pos 0
none_later es i d rising within =
    none_on (get_or es i d).line (drop (i + 1) es) (All-from_get_or (λ (e : Effect). e.line ≢ (get_or es i d).line) (drop (i + 1) es) d (λ k below.
    let size : length (drop (i + 1) es) + (i + 1) ≡ length es = omega (arith, length-drop (i + 1) es) in
    let less : i < (i + 1) + k = omega arith in
    let inside : (i + 1) + k < length es = omega arith in
    let same : get_or (drop (i + 1) es) k d ≡ get_or es ((i + 1) + k) d = get_or-drop (i + 1) es k d in
    let rises : (get_or es i d).line < (get_or es ((i + 1) + k) d).line = rising i ((i + 1) + k) d less inside in
    let line : (get_or (drop (i + 1) es) k d).line ≡ (get_or es ((i + 1) + k) d).line = ap (λ (e : Effect). e.line) same in
    (λ q. absurd (omega arith))))

-- the one effect on a line is the effect on it
pub one_on_line : (es : List Effect) (i : ℕ) (d : Effect) → AllPairs (λ (a b : Effect). a.line < b.line) es → i < length es →
    sum_over (on_line (get_or es i d).line) es ≡ (get_or es i d).amount
one_on_line es i d rising within =
    let l : ℕ = (get_or es i d).line in
    let cut : take i es ++ drop i es ≡ es = take-append-drop i es in
    let rest : drop i es ≡ get_or es i d ∷ drop (i + 1) es = drop_more es i d within in
    let whole : sum_over (on_line l) es ≡ sum_over (on_line l) (take i es) +ℤ sum_over (on_line l) (drop i es) =
    ap (sum_over (on_line l)) (sym cut) ∙ sum_over_append (on_line l) (take i es) (drop i es) in
    let tail : sum_over (on_line l) (drop i es) ≡ on_line l (get_or es i d) +ℤ sum_over (on_line l) (drop (i + 1) es) =
    ap (sum_over (on_line l)) rest in
    let here : on_line l (get_or es i d) ≡ (get_or es i d).amount = elim (eqb_tells l l) as (λ _. on_line l (get_or es i d) ≡ (get_or es i d).amount) [
      | inl same ↦ on_same (get_or es i d) l same.0
      | inr other ↦ absurd (other.1 refl)
    ] in
    let before : sum_over (on_line l) (take i es) ≡ pos 0 = none_earlier es i d rising within in
    let after : sum_over (on_line l) (drop (i + 1) es) ≡ pos 0 = none_later es i d rising within in
    omega (arith, ints)

pub pick_zero : (b : Bool) → pick b (pos 0) ≡ pos 0
pick_zero true = refl
pick_zero false = refl

-- a change by an effect of 0 is none
pub moved_zero : (s : LineSum) (from to : Mark) → moved s from to (pos 0) ≡ s
moved_zero s from to =
    let a : (moved s from to (pos 0)).held ≡ s.held = omega (arith, ints, pick_zero (is_chosen from), pick_zero (is_chosen to)) in
    let b : (moved s from to (pos 0)).credits ≡ s.credits = omega (arith, ints, pick_zero (is_undecided from), pick_zero (is_undecided to)) in
    let c : (moved s from to (pos 0)).debits ≡ s.debits = omega (arith, ints, pick_zero (is_undecided from), pick_zero (is_undecided to)) in
    ap (λ (z : ℤ). record { held = z; credits = (moved s from to (pos 0)).credits; debits = (moved s from to (pos 0)).debits }) a
    ∙ ap (λ (z : ℤ). record { held = s.held; credits = z; debits = (moved s from to (pos 0)).debits }) b
    ∙ ap (λ (z : ℤ). record { held = s.held; credits = s.credits; debits = z }) c

-- the line of the effect that comes next is still as it was
pub untouched : (n : ℕ) (start sums : List LineSum) (es : List Effect) (i : ℕ) (d : Effect) (from to : Mark) → AreEffects n es → i < length es →
    sum_at sums (get_or es i d).line ≡ moved (sum_at start (get_or es i d).line) from to (sum_over (on_line (get_or es i d).line) (take i es)) →
    sum_at sums (get_or es i d).line ≡ sum_at start (get_or es i d).line
untouched n start sums es i d from to are within is =
    is ∙ ap (moved (sum_at start (get_or es i d).line) from to) (none_earlier es i d are.rising within)
    ∙ moved_zero (sum_at start (get_or es i d).line) from to

pub shift_step : (n : ℕ) (start sums : List LineSum) (es : List Effect) (i : ℕ) (d e : Effect) (v : LineSum) (from to : Mark) →
    AreEffects n es → i < length es → e ≡ get_or es i d → e.line < length sums →
    v ≡ moved (sum_at sums e.line) from to e.amount →
    ((k : ℕ) → k < length sums → sum_at sums k ≡ moved (sum_at start k) from to (sum_over (on_line k) (take i es))) →
    (k : ℕ) → k < length sums →
    sum_at (set sums e.line v) k ≡ moved (sum_at start k) from to (sum_over (on_line k) (take (i + 1) es))
shift_step n start sums es i d e v from to are within read inside new before k below =
    let more : sum_over (on_line k) (take (i + 1) es) ≡ sum_over (on_line k) (take i es) +ℤ on_line k (get_or es i d) =
    sum_over_more (on_line k) es i d within in
    let same_e : on_line k (get_or es i d) ≡ on_line k e = ap (on_line k) (sym read) in
    elim (eqb_tells e.line k) as (λ _. sum_at (set sums e.line v) k ≡ moved (sum_at start k) from to (sum_over (on_line k) (take (i + 1) es))) [
      | inl same ↦
          let put : sum_at (set sums e.line v) k ≡ v =
          ap (λ m. sum_at (set sums m v) k) same.1 ∙ get_or-set_same sums k v no_sum below in
          let line : (get_or es i d).line ≡ k = ap (λ (x : Effect). x.line) (sym read) ∙ same.1 in
          let none : sum_over (on_line k) (take i es) ≡ pos 0 =
          ap (λ m. sum_over (on_line m) (take i es)) (sym line) ∙ none_earlier es i d are.rising within in
          let was : sum_at sums k ≡ sum_at start k =
          before k below ∙ ap (moved (sum_at start k) from to) none ∙ moved_zero (sum_at start k) from to in
          let here : on_line k e ≡ e.amount = on_same e k same.0 in
          let total : sum_over (on_line k) (take (i + 1) es) ≡ e.amount = omega (arith, ints) in
          put ∙ new ∙ ap (λ m. moved (sum_at sums m) from to e.amount) same.1
          ∙ ap (λ (s : LineSum). moved s from to e.amount) was
          ∙ ap (moved (sum_at start k) from to) (sym total)
      | inr other ↦
          let put : sum_at (set sums e.line v) k ≡ sum_at sums k = get_or-set_other sums e.line k v no_sum (λ q. other.1 (sym q)) in
          let here : on_line k e ≡ pos 0 = on_other e k other.0 in
          let total : sum_over (on_line k) (take (i + 1) es) ≡ sum_over (on_line k) (take i es) = omega (arith, ints) in
          put ∙ before k below ∙ ap (moved (sum_at start k) from to) (sym total)
    ]

-- a sum over the places changes at the place whose mark changes
marked_sum : (test : Mark → Bool) (g : ℕ → ℤ) (f : List Mark) (j n : ℕ) (m : Mark) → j < n → j < length f →
    sum_below (λ i. pick (test (mark (set f j m) i)) (g i)) n
    ≡ sum_below (λ i. pick (test (mark f i)) (g i)) n +ℤ (pick (test m) (g j) -ℤ pick (test (mark f j)) (g j))
marked_sum test g f j n m within inside =
    let change : sum_below (λ i. pick (test (mark (set f j m) i)) (g i)) n
    ≡ sum_below (λ i. pick (test (mark f i)) (g i)) n +ℤ (pick (test (mark (set f j m) j)) (g j) -ℤ pick (test (mark f j)) (g j)) =
    sum_below_change (λ i. pick (test (mark f i)) (g i)) (λ i. pick (test (mark (set f j m) i)) (g i)) n j within
    (λ i below off. ap (λ x. pick (test x) (g i)) (get_or-set_other f j i m Stranger off)) in
    let put : pick (test (mark (set f j m) j)) (g j) ≡ pick (test m) (g j) =
    ap (λ x. pick (test x) (g j)) (get_or-set_same f j m Stranger inside) in
    omega (arith, ints)

pub held_turned : (p : Clearing) (f : List Mark) (j l : ℕ) (m : Mark) → length f ≡ length p.items → j < length p.items →
    held p (set f j m) l ≡ held p f l +ℤ (pick (is_chosen m) (effect p j l) -ℤ pick (is_chosen (mark f j)) (effect p j l))
held_turned p f j l m size within =
    let sum = marked_sum is_chosen (λ i. effect p i l) f j (length p.items) m within (omega arith) in
    omega (arith, ints, sum)

pub credits_turned : (p : Clearing) (f : List Mark) (j l : ℕ) (m : Mark) → length f ≡ length p.items → j < length p.items →
    credits p (set f j m) l
    ≡ credits p f l +ℤ (pick (is_undecided m) (int_max (pos 0) (effect p j l)) -ℤ pick (is_undecided (mark f j)) (int_max (pos 0) (effect p j l)))
credits_turned p f j l m size within =
    marked_sum is_undecided (λ i. int_max (pos 0) (effect p i l)) f j (length p.items) m within (omega arith)

pub debits_turned : (p : Clearing) (f : List Mark) (j l : ℕ) (m : Mark) → length f ≡ length p.items → j < length p.items →
    debits p (set f j m) l
    ≡ debits p f l +ℤ (pick (is_undecided m) (int_min (pos 0) (effect p j l)) -ℤ pick (is_undecided (mark f j)) (int_min (pos 0) (effect p j l)))
debits_turned p f j l m size within =
    marked_sum is_undecided (λ i. int_min (pos 0) (effect p i l)) f j (length p.items) m within (omega arith)

-- the sums after a place's effects are moved are those of the marks with the place turned
pub turned : (p : Clearing) (f g : List Mark) (sums after : List LineSum) (j : ℕ) (m : Mark) →
    IsOf p (record { marks = f; sums = sums }) → j < length p.items → g ≡ set f j m → length after ≡ length sums →
    ((l : ℕ) → l < length after → sum_at after l ≡ moved (sum_at sums l) (mark f j) m (effect p j l)) →
    IsOf p (record { marks = g; sums = after })
turned p f g sums after j m of within put size moves =
    let lines : length sums ≡ length p.lines = of.lines in
    let marks : length f ≡ length p.items = of.marks in
    record {
      marks = ap length put ∙ length-set f j m ∙ of.marks;
      lines = size ∙ of.lines;
      held = (λ l below.
          let move : (sum_at after l).held ≡ (moved (sum_at sums l) (mark f j) m (effect p j l)).held =
          ap (λ (s : LineSum). s.held) (moves l (omega arith)) in
          let was : (sum_at sums l).held ≡ held p f l = of.held l below in
          let is = held_turned p f j l m marks within in
          let to : held p g l ≡ held p (set f j m) l = ap (λ (h : List Mark). held p h l) put in
          omega (arith, ints, is));
      credits = (λ l below.
          let move : (sum_at after l).credits ≡ (moved (sum_at sums l) (mark f j) m (effect p j l)).credits =
          ap (λ (s : LineSum). s.credits) (moves l (omega arith)) in
          let was : (sum_at sums l).credits ≡ credits p f l = of.credits l below in
          let is = credits_turned p f j l m marks within in
          let to : credits p g l ≡ credits p (set f j m) l = ap (λ (h : List Mark). credits p h l) put in
          omega (arith, ints, is));
      debits = (λ l below.
          let move : (sum_at after l).debits ≡ (moved (sum_at sums l) (mark f j) m (effect p j l)).debits =
          ap (λ (s : LineSum). s.debits) (moves l (omega arith)) in
          let was : (sum_at sums l).debits ≡ debits p f l = of.debits l below in
          let is = debits_turned p f j l m marks within in
          let to : debits p g l ≡ debits p (set f j m) l = ap (λ (h : List Mark). debits p h l) put in
          omega (arith, ints, is));
    }

pick_small : (m : ℕ) (b : Bool) (z : ℤ) → Within m z → Within m (pick b z)
pick_small m true z small = small
pick_small m false z small = record { low = omega (arith, ints); high = omega (arith, ints) }

max_small : (m : ℕ) (z : ℤ) → Within m z → Within m (int_max (pos 0) z)
max_small m z small = record { low = omega (arith, ints, clamps, small.low, small.high); high = omega (arith, ints, clamps, small.low, small.high) }

min_small : (m : ℕ) (z : ℤ) → Within m z → Within m (int_min (pos 0) z)
min_small m z small = record { low = omega (arith, ints, clamps, small.low, small.high); high = omega (arith, ints, clamps, small.low, small.high) }

-- the sums kept of a problem within its limits are small
pub sums_small : (p : Clearing) (k : Kept) → IsProblem p → IsOf p k → All (IsSmall (2 ^ 100)) k.sums
sums_small p k limits of = All-from_get_or (IsSmall (2 ^ 100)) k.sums no_sum (λ l below.
    let inside : l < length p.lines = omega (arith, of.lines) in
    let held_sum = sum_below_within (2 ^ 58) (λ j. pick (is_chosen (mark k.marks j)) (effect p j l)) (length p.items)
    (λ j within. pick_small (2 ^ 58) (is_chosen (mark k.marks j)) (effect p j l) (effect_small p j l limits)) in
    let credit_sum = sum_below_within (2 ^ 58) (λ j. pick (is_undecided (mark k.marks j)) (int_max (pos 0) (effect p j l))) (length p.items)
    (λ j within. pick_small (2 ^ 58) (is_undecided (mark k.marks j)) (int_max (pos 0) (effect p j l)) (max_small (2 ^ 58) (effect p j l) (effect_small p j l limits))) in
    let debit_sum = sum_below_within (2 ^ 58) (λ j. pick (is_undecided (mark k.marks j)) (int_min (pos 0) (effect p j l))) (length p.items)
    (λ j within. pick_small (2 ^ 58) (is_undecided (mark k.marks j)) (int_min (pos 0) (effect p j l)) (min_small (2 ^ 58) (effect p j l) (effect_small p j l limits))) in
    let size : length p.items * 2 ^ 58 ≤ 2 ^ 68 = omega (arith, limits.items) in
    let start = balance_small p l limits in
    let a = of.held l inside in
    let b = of.credits l inside in
    let c = of.debits l inside in
    record {
      held = record { low = omega (arith, ints, a, held_sum.low, start.0, start.1, size); high = omega (arith, ints, a, held_sum.high, start.0, start.1, size) };
      credits = record { low = omega (arith, ints, b, credit_sum.low, size); high = omega (arith, ints, b, credit_sum.high, size) };
      debits = record { low = omega (arith, ints, c, debit_sum.low, size); high = omega (arith, ints, c, debit_sum.high, size) };
    })

-- a sum after a small effect is taken out
pub still_small : (b : Bool) (z a y : ℤ) → Within (2 ^ 100) z → Within (8 * 10 ^ 15) a → y ≡ z -ℤ pick b a → Within (2 ^ 125) y
still_small b z a y room small is =
    let part = pick_small (8 * 10 ^ 15) b a small in
    record { low = omega (arith, ints, room.low, part.low, part.high); high = omega (arith, ints, room.high, part.low, part.high) }

pub still_small_max : (b : Bool) (z a y : ℤ) → Within (2 ^ 100) z → Within (8 * 10 ^ 15) a → y ≡ z -ℤ pick b (int_max (pos 0) a) → Within (2 ^ 125) y
still_small_max b z a y room small is = still_small b z (int_max (pos 0) a) y room (max_small (8 * 10 ^ 15) a small) is

pub still_small_min : (b : Bool) (z a y : ℤ) → Within (2 ^ 100) z → Within (8 * 10 ^ 15) a → y ≡ z -ℤ pick b (int_min (pos 0) a) → Within (2 ^ 125) y
still_small_min b z a y room small is = still_small b z (int_min (pos 0) a) y room (min_small (8 * 10 ^ 15) a small) is

-- taken out under one mark and put in under another
pub moved_by : (s t u : LineSum) (from to : Mark) (a : ℤ) →
    t.held ≡ s.held -ℤ pick (is_chosen from) a →
    t.credits ≡ s.credits -ℤ pick (is_undecided from) (int_max (pos 0) a) →
    t.debits ≡ s.debits -ℤ pick (is_undecided from) (int_min (pos 0) a) →
    u.held ≡ t.held +ℤ pick (is_chosen to) a →
    u.credits ≡ t.credits +ℤ pick (is_undecided to) (int_max (pos 0) a) →
    u.debits ≡ t.debits +ℤ pick (is_undecided to) (int_min (pos 0) a) →
    u ≡ moved s from to a
moved_by s t u from to a h1 c1 d1 h2 c2 d2 =
    let h : u.held ≡ (moved s from to a).held = omega (arith, ints) in
    let c : u.credits ≡ (moved s from to a).credits = omega (arith, ints) in
    let d : u.debits ≡ (moved s from to a).debits = omega (arith, ints) in
    ap (λ (z : ℤ). record { held = z; credits = u.credits; debits = u.debits }) h
    ∙ ap (λ (z : ℤ). record { held = (moved s from to a).held; credits = z; debits = u.debits }) c
    ∙ ap (λ (z : ℤ). record { held = (moved s from to a).held; credits = (moved s from to a).credits; debits = z }) d
