use Rattle.std.proofs.Common.{◌≡◌, ◌≢◌, inl, inr, ℕ, ◌<◌, pos, ◌+ℤ◌, ◌-ℤ◌, ◌<ℤ◌, Bool, true, false, not, ◌&&◌, ltb, List, length, get_or, set, refl, ap, sym, ◌∙◌, arith, length-set}
use Rattle.std.specs.List.{Contains}
use Rattle.std.proofs.lemmas.Bool.{cases_eq}
use Rattle.std.proofs.lemmas.Bool.Decides.{Decides-ltb}
use Rattle.std.proofs.lemmas.Int.{ints}
use Rattle.dali_problem.specs.declared.columns.Touch.{Touch}
use Rattle.dali_problem.specs.declared.row.Effect.{Effect}
use Rattle.dali_problem.specs.declared.mark.Mark.{Mark}
use Rattle.dali_problem.specs.declared.mark.Mark.TheVariants.{Stranger, Undecided, Chosen, Left}
use Rattle.dali_problem.specs.Clearing.{Clearing, worth, effect}
use Rattle.dali_problem.specs.Limits.{IsProblem}
use Rattle.dali_problem.specs.Partial.{mark, is_chosen, is_undecided, held}
use Rattle.dali_problem.specs.Rules.{is_negative}
use Rattle.dali_problem.specs.Touches.{touches}
use Rattle.dali_problem.proofs.RuleTests.{undecided_is}
use Rattle.dali_rest.proofs.Marks.{mark_other, within_left, within_chosen}
use Rattle.dali_rest.proofs.Sides.{nonneg, held_chosen, held_left}
use Rattle.dali_greedy.specs.Standing.{Standing, IsStandOf, GoesWith, Betters, IsTight, IsTouch, exchanged, gives_way}
use Rattle.dali_greedy.proofs.Columned.{touches_have}
use Rattle.dali_greedy.proofs.Fits.{tight_line}
use Rattle.dali_greedy.proofs.Worths.{chosen_is}

-- an undecided place may have any mark
pub goes_set : (f g : List Mark) (j : ℕ) (m : Mark) → mark f j ≡ Undecided → GoesWith f g → GoesWith f (set g j m)
goes_set f g j m undec goes = record {
  members = (λ k chosen. elim (cases_eq k j) as (λ _. mark f k ≢ Stranger) [
    | inl same ↦ (λ q. (let was : mark f k ≡ Undecided = ap (mark f) same ∙ undec in cc (was, q)))
    | inr other ↦ goes.members k (sym (mark_other g j k m other) ∙ chosen)
  ]);
  chosen = (λ k chosen. elim (cases_eq k j) as (λ _. mark (set g j m) k ≡ Chosen) [
    | inl same ↦ absurd (let was : mark f k ≡ Undecided = ap (mark f) same ∙ undec in cc (was, chosen))
    | inr other ↦ mark_other g j k m other ∙ goes.chosen k chosen
  ]);
  left = (λ k chosen. elim (cases_eq k j) as (λ _. mark f k ≢ Left) [
    | inl same ↦ (λ q. (let was : mark f k ≡ Undecided = ap (mark f) same ∙ undec in cc (was, q)))
    | inr other ↦ goes.left k (sym (mark_other g j k m other) ∙ chosen)
  ]);
}

pub goes_exchanged : (f g : List Mark) (i j : ℕ) → mark f i ≡ Undecided → mark f j ≡ Undecided → GoesWith f g → GoesWith f (exchanged g i j)
goes_exchanged f g i j first second goes = goes_set f (set g i Left) j Chosen second (goes_set f g i Left first goes)

-- two tests in one
pub both_told : (a b : Bool) → (a && b) ≡ true → (a ≡ true) × (b ≡ true)
both_told true b told = (refl, told)
both_told false b told = absurd (cc told)

pub both_of : (a b : Bool) → a ≡ true → b ≡ true → (a && b) ≡ true
both_of true b first second = second
both_of false b first second = absurd (cc first)

not_false : (b : Bool) → b ≡ false → not b ≡ true
not_false b is = ap not is

-- what a line has once place j is exchanged for place i
pub held_exchanged : (p : Clearing) (k : Standing) (i j l : ℕ) → IsStandOf p k → mark k.marks i ≡ Chosen → mark k.marks j ≡ Left →
    held p (exchanged k.marks i j) l ≡ held p k.marks l -ℤ effect p i l +ℤ effect p j l
held_exchanged p k i j l stand chosen left =
    let within : i < length p.items = omega (arith, within_chosen k.marks i chosen, stand.marks) in
    let inside : j < length p.items = omega (arith, within_left k.marks j left, stand.marks) in
    let size : length (set k.marks i Left) ≡ length p.items = length-set k.marks i Left ∙ stand.marks in
    let apart : j ≢ i = λ same. absurd (let other : mark k.marks i ≡ Left = ap (mark k.marks) (sym same) ∙ left in cc (chosen, other)) in
    let still : mark (set k.marks i Left) j ≡ Left = mark_other k.marks i j Left apart ∙ left in
    let first = held_left p k.marks i l stand.marks within chosen in
    let second = held_chosen p (set k.marks i Left) j l size inside still in
    omega (arith, ints, first, second)

-- the parts of the test
pub way_told : (p : Clearing) (f : List Mark) (k : Standing) (j : ℕ) (e : Effect) (t : Touch) → gives_way p f k j e t ≡ true →
    (mark k.marks t.place ≡ Chosen) × (mark f t.place ≡ Undecided) × (worth p t.place < worth p j)
way_told p f k j e t told =
    let a : Bool = is_chosen (mark k.marks t.place) in
    let b : Bool = is_undecided (mark f t.place) in
    let less : Bool = ltb (worth p t.place) (worth p j) in
    let first = both_told (a && b && less) (not (is_negative (get_or k.has e.line (pos 0) +ℤ e.amount -ℤ t.amount))) told in
    let second = both_told (a && b) less first.0 in
    let third = both_told a b second.0 in
    (chosen_is (mark k.marks t.place) third.0, undecided_is (mark f t.place) third.1, (Decides-ltb (worth p t.place) (worth p j)).0 second.1)

-- a place that can be exchanged gives way
pub way_of : (p : Clearing) (f : List Mark) (k : Standing) (j : ℕ) (e : Effect) (t : Touch) → IsProblem p → IsStandOf p k → mark k.marks j ≡ Left → IsTight p k j e →
    IsTouch p e.line t → Betters p f k.marks j t.place → gives_way p f k j e t ≡ true
way_of p f k j e t limits stand left tight touch betters =
    let within : j < length p.items = omega (arith, within_left k.marks j left, stand.marks) in
    let line = tight_line p k j e limits within tight in
    let change = held_exchanged p k t.place j e.line stand betters.chosen left in
    let up = nonneg (get_or k.has e.line (pos 0) +ℤ e.amount -ℤ t.amount)
    (omega (arith, ints, change, betters.holds.covered e.line line.0, line.1, stand.has e.line line.0, touch.amount)) in
    let a : Bool = is_chosen (mark k.marks t.place) in
    let b : Bool = is_undecided (mark f t.place) in
    let less : Bool = ltb (worth p t.place) (worth p j) in
    both_of (a && b && less) (not (is_negative (get_or k.has e.line (pos 0) +ℤ e.amount -ℤ t.amount)))
    (both_of (a && b) less (both_of a b (ap is_chosen betters.chosen) (ap is_undecided betters.undecided)) ((Decides-ltb (worth p t.place) (worth p j)).1 betters.less))
    (not_false (is_negative (get_or k.has e.line (pos 0) +ℤ e.amount -ℤ t.amount)) up)

-- a place that can be exchanged is among the touches of the line that is tight
pub better_touches : (p : Clearing) (f : List Mark) (k : Standing) (i j : ℕ) (e : Effect) → IsProblem p → IsStandOf p k → mark k.marks j ≡ Left → IsTight p k j e →
    Betters p f k.marks j i → Contains (touches p e.line) (record { place = i; amount = effect p i e.line })
better_touches p f k i j e limits stand left tight betters =
    let within : j < length p.items = omega (arith, within_left k.marks j left, stand.marks) in
    let inside : i < length p.items = omega (arith, within_chosen k.marks i betters.chosen, stand.marks) in
    let line = tight_line p k j e limits within tight in
    let change = held_exchanged p k i j e.line stand betters.chosen left in
    let down : (get_or k.has e.line (pos 0) +ℤ e.amount) <ℤ pos 0 = grind (arith, ints, tight.negative) in
    touches_have p e.line i inside (λ none. absurd (omega (arith, ints, change, betters.holds.covered e.line line.0, line.1, stand.has e.line line.0, down, none)))

-- what is tight depends on the set alone
pub tight_same : (p : Clearing) (k m : Standing) (j : ℕ) (e : Effect) → IsProblem p → j < length p.items → IsStandOf p k → IsStandOf p m → m.marks ≡ k.marks →
    IsTight p k j e → IsTight p m j e
tight_same p k m j e limits within of_k of_m same tight =
    let line = (tight_line p k j e limits within tight).0 in
    let has : get_or m.has e.line (pos 0) ≡ get_or k.has e.line (pos 0) =
    of_m.has e.line line ∙ ap (λ (g : List Mark). held p g e.line) same ∙ sym (of_k.has e.line line) in
    record {
      effect = tight.effect;
      negative = ap (λ z. is_negative (z +ℤ e.amount)) has ∙ tight.negative;
    }
