use Rattle.std.proofs.Common.{◌≡◌, ◌≢◌, inl, inr, ℕ, ◌*◌, ◌^◌, ◌<◌, ◌≤◌, ℤ, pos, ◌+ℤ◌, ◌-ℤ◌, Bool, true, false, List, length, get_or, set, refl, ap, sym, ◌∙◌, subst, arith, length-set}
use Rattle.std.specs.List.{All}
use Rattle.std.proofs.Math.ListN.{replicate}
use Rattle.std.proofs.lemmas.Bool.{cases_eq, cases_lt}
use Rattle.std.proofs.lemmas.List.{get_or-replicate, get_or_past, length-replicate}
use Rattle.std.proofs.lemmas.Int.{ints}
use Rattle.std.proofs.lemmas.List.Elements.{All-from_get_or}
use Rattle.dali_problem.specs.declared.mark.Mark.{Mark}
use Rattle.dali_problem.specs.declared.mark.Mark.TheVariants.{Stranger, Chosen, Left}
use Rattle.dali_problem.specs.Sums.{pick, sum_below}
use Rattle.dali_problem.specs.Clearing.{Clearing, balance, effect}
use Rattle.dali_problem.specs.Limits.{Within, IsProblem}
use Rattle.dali_problem.specs.Partial.{mark, is_chosen, held}
use Rattle.dali_problem.proofs.SumLaws.{sum_below_within, sum_below_same, sum_below_zero}
use Rattle.dali_problem.proofs.Lines.{effect_small, balance_small}
use Rattle.dali_rest.proofs.Marks.{mark_same, mark_other, within_left, within_chosen}
use Rattle.dali_rest.proofs.Sides.{held_chosen, held_left, decided_set, chosen_or, left_or}
use Rattle.dali_rest.specs.Swaps.{AreDecided}
use Rattle.dali_greedy.specs.Standing.{Standing, IsStandOf}

pick_small : (m : ℕ) (b : Bool) (z : ℤ) → Within m z → Within m (pick b z)
pick_small m true z small = small
pick_small m false z small = record { low = omega (arith, ints); high = omega (arith, ints) }

pub held_small : (p : Clearing) (g : List Mark) (l : ℕ) → IsProblem p → Within (2 ^ 124) (held p g l)
held_small p g l limits =
    let sum = sum_below_within (2 ^ 58) (λ j. pick (is_chosen (mark g j)) (effect p j l)) (length p.items)
    (λ k below. pick_small (2 ^ 58) (is_chosen (mark g k)) (effect p k l) (effect_small p k l limits)) in
    let start = balance_small p l limits in
    let size : length p.items * 2 ^ 58 ≤ 2 ^ 122 = omega (arith, limits.items) in
    record { low = omega (arith, ints, sum.low, start.0, start.1, size); high = omega (arith, ints, sum.high, start.0, start.1, size) }

-- each line leaves room for one place more
pub has_room : (p : Clearing) (k : Standing) → IsProblem p → IsStandOf p k → All (Within (2 ^ 124)) k.has
has_room p k limits stand = All-from_get_or (Within (2 ^ 124)) k.has (pos 0) (λ l below.
    subst (Within (2 ^ 124)) (sym (stand.has l (omega (arith, below, stand.lines)))) (held_small p k.marks l limits))

members_set : (p : Clearing) (g : List Mark) (j : ℕ) (m : Mark) → length g ≡ length p.items → m ≢ Stranger →
    ((i : ℕ) → i < length p.items → mark g i ≢ Stranger) → (i : ℕ) → i < length p.items → mark (set g j m) i ≢ Stranger
members_set p g j m size other all i below = elim (cases_eq i j) as (λ _. mark (set g j m) i ≢ Stranger) [
  | inl same ↦ subst (λ n. mark (set g j m) n ≢ Stranger) (sym same)
      (subst (λ x. x ≢ Stranger) (sym (mark_same g j m (omega (arith, size, below, same)))) other)
  | inr off ↦ subst (λ x. x ≢ Stranger) (sym (mark_other g j i m off)) (all i below)
]

not_stranger : (m : Mark) → (m ≡ Chosen) → m ≢ Stranger
not_stranger m is other = absurd (cc (is, other))

not_stranger_left : (m : Mark) → (m ≡ Left) → m ≢ Stranger
not_stranger_left m is other = absurd (cc (is, other))

pub chosen_stand : (p : Clearing) (k n : Standing) (j : ℕ) → IsStandOf p k → mark k.marks j ≡ Left → n.marks ≡ set k.marks j Chosen → length n.has ≡ length k.has →
    ((l : ℕ) → l < length n.has → get_or n.has l (pos 0) ≡ get_or k.has l (pos 0) +ℤ effect p j l) → IsStandOf p n
chosen_stand p k n j stand left marks lines has =
    let within : j < length p.items = omega (arith, within_left k.marks j left, stand.marks) in
    record {
      marks = ap length marks ∙ length-set k.marks j Chosen ∙ stand.marks;
      members = (λ i below. subst (λ (g : List Mark). mark g i ≢ Stranger) (sym marks)
          (members_set p k.marks j Chosen stand.marks (not_stranger Chosen refl) stand.members i below));
      decided = subst (λ g. AreDecided p g) (sym marks) (decided_set p k.marks j Chosen stand.marks (chosen_or Chosen refl) stand.decided);
      lines = lines ∙ stand.lines;
      has = (λ l below.
          has l (omega (arith, below, lines, stand.lines)) ∙ ap (λ z. z +ℤ effect p j l) (stand.has l below)
          ∙ sym (held_chosen p k.marks j l stand.marks within left) ∙ ap (λ (g : List Mark). held p g l) (sym marks));
    }

pub left_stand : (p : Clearing) (k n : Standing) (j : ℕ) → IsStandOf p k → mark k.marks j ≡ Chosen → n.marks ≡ set k.marks j Left → length n.has ≡ length k.has →
    ((l : ℕ) → l < length n.has → get_or n.has l (pos 0) ≡ get_or k.has l (pos 0) -ℤ effect p j l) → IsStandOf p n
left_stand p k n j stand chosen marks lines has =
    let within : j < length p.items = omega (arith, within_chosen k.marks j chosen, stand.marks) in
    record {
      marks = ap length marks ∙ length-set k.marks j Left ∙ stand.marks;
      members = (λ i below. subst (λ (g : List Mark). mark g i ≢ Stranger) (sym marks)
          (members_set p k.marks j Left stand.marks (not_stranger_left Left refl) stand.members i below));
      decided = subst (λ g. AreDecided p g) (sym marks) (decided_set p k.marks j Left stand.marks (left_or Left refl) stand.decided);
      lines = lines ∙ stand.lines;
      has = (λ l below.
          has l (omega (arith, below, lines, stand.lines)) ∙ ap (λ z. z -ℤ effect p j l) (stand.has l below)
          ∙ sym (held_left p k.marks j l stand.marks within chosen) ∙ ap (λ (g : List Mark). held p g l) (sym marks));
    }

-- the empty set
all_left : (n j : ℕ) → j < n → mark (replicate n Left) j ≡ Left
all_left n j within = get_or-replicate n j Left Stranger within

pub none_in : (g : List Mark) (n j : ℕ) → g ≡ replicate n Left → mark g j ≢ Chosen
none_in g n j is chosen = elim (cases_lt j n) as (λ _. ⊥) [
  | inl within ↦ (let left : mark g j ≡ Left = ap (λ (h : List Mark). mark h j) is ∙ all_left n j within in absurd (cc (left, chosen)))
  | inr past ↦ (let none : mark g j ≡ Stranger = get_or_past g j Stranger (omega (arith, ap length is, length-replicate n Left, past)) in absurd (cc (none, chosen)))
]

pub empty_stand : (p : Clearing) (k : Standing) → k.marks ≡ replicate (length p.items) Left → length k.has ≡ length p.lines →
    ((l : ℕ) → l < length k.has → get_or k.has l (pos 0) ≡ balance p l) → IsStandOf p k
empty_stand p k is lines has =
    let left : (j : ℕ) → j < length p.items → mark k.marks j ≡ Left =
    λ j below. ap (λ (h : List Mark). mark h j) is ∙ all_left (length p.items) j below in
    record {
      marks = ap length is ∙ length-replicate (length p.items) Left;
      members = (λ j below. not_stranger_left (mark k.marks j) (left j below));
      decided = record { decided = (λ j below. left_or (mark k.marks j) (left j below)) };
      lines = lines;
      has = (λ l below.
          let none : sum_below (λ j. pick (is_chosen (mark k.marks j)) (effect p j l)) (length p.items) ≡ pos 0 =
          sum_below_same (λ j. pick (is_chosen (mark k.marks j)) (effect p j l)) (λ _. pos 0) (length p.items)
          (λ j within. ap (λ m. pick (is_chosen m) (effect p j l)) (left j within)) ∙ sum_below_zero (length p.items) in
          let at = has l (omega (arith, below, lines)) in
          omega (arith, ints, none, at));
    }
