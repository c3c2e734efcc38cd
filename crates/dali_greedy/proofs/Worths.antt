use Rattle.std.proofs.Common.{◌≡◌, ◌≢◌, inl, inr, ℕ, zero, suc, ◌+◌, ◌<◌, ◌≤◌, pos, ◌+ℤ◌, Bool, true, false, List, length, set, refl, ap, sym, ◌∙◌, arith}
use Rattle.std.specs.Prelude.{if◌then◌else◌}
use Rattle.std.proofs.lemmas.Bool.{cases_eq}
use Rattle.std.proofs.lemmas.Int.{ints}
use Rattle.dali_problem.specs.declared.mark.Mark.{Mark}
use Rattle.dali_problem.specs.declared.mark.Mark.TheVariants.{Stranger, Undecided, Chosen, Left}
use Rattle.dali_problem.specs.Sums.{sum_below, pick}
use Rattle.dali_problem.specs.Clearing.{Clearing, worth}
use Rattle.dali_problem.specs.Feasible.{ArePlaces, value_of}
use Rattle.dali_problem.specs.Limits.{IsProblem}
use Rattle.dali_problem.specs.Partial.{mark, is_chosen}
use Rattle.dali_problem.proofs.Lines.{item_limits}
use Rattle.dali_problem.proofs.SetLaws.{is_in, value_in}
use Rattle.dali_problem.proofs.SumLaws.{sum_below_same}
use Rattle.dali_rest.specs.Room.{AreMarksOf}
use Rattle.dali_rest.proofs.Marks.{mark_same, mark_other, put_back, within_chosen}
use Rattle.dali_rest.proofs.Standing.{stands_is, by_test}
use Rattle.dali_greedy.specs.Standing.{left_worth, exchanged}

-- what one place counts
abbrev counts : Clearing → ℕ → Bool → ℕ
counts p n b = if b then 0 else worth p n

worth_same : (p : Clearing) (f g : List Mark) (n : ℕ) → ((j : ℕ) → j < n → mark g j ≡ mark f j) → left_worth p g n ≡ left_worth p f n
worth_same p f g zero same = refl
worth_same p f g (suc n) same =
    let rest = worth_same p f g n (λ j below. same j (omega (arith, below))) in
    let last : counts p n (is_chosen (mark g n)) ≡ counts p n (is_chosen (mark f n)) = ap (λ m. counts p n (is_chosen m)) (same n (omega arith)) in
    omega (arith, rest, last)

-- a place is chosen
pub worth_chosen : (p : Clearing) (g : List Mark) (j n : ℕ) → j < n → j < length g → mark g j ≡ Left →
    left_worth p g n ≡ left_worth p (set g j Chosen) n + worth p j
worth_chosen p g j zero below inside left = absurd (omega (arith, below))
worth_chosen p g j (suc n) below inside left =
    let h : List Mark = set g j Chosen in
    let off : (k : ℕ) → k ≢ j → mark h k ≡ mark g k = λ k other. mark_other g j k Chosen other in
    elim (cases_eq j n) as (λ _. left_worth p g (suc n) ≡ left_worth p h (suc n) + worth p j) [
      | inl last ↦
          let rest = worth_same p g h n (λ k less. off k (λ same. absurd (omega (arith, less, same, last)))) in
          let here : counts p n (is_chosen (mark h n)) ≡ 0 = ap (λ m. counts p n (is_chosen m)) (ap (mark h) (sym last) ∙ mark_same g j Chosen inside) in
          let was : counts p n (is_chosen (mark g n)) ≡ worth p n = ap (λ m. counts p n (is_chosen m)) (ap (mark g) (sym last) ∙ left) in
          let same : worth p n ≡ worth p j = ap (worth p) (sym last) in
          omega (arith, rest, here, was, same)
      | inr other ↦
          let rest = worth_chosen p g j n (omega (arith, below, other)) inside left in
          let tail : counts p n (is_chosen (mark h n)) ≡ counts p n (is_chosen (mark g n)) = ap (λ m. counts p n (is_chosen m)) (off n (λ same. other (sym same))) in
          omega (arith, rest, tail)
    ]

pub worth_left : (p : Clearing) (g : List Mark) (j n : ℕ) → j < n → length (set g j Left) ≡ length g → mark g j ≡ Chosen →
    left_worth p (set g j Left) n ≡ left_worth p g n + worth p j
worth_left p g j n below size chosen =
    let inside : j < length g = within_chosen g j chosen in
    let less = worth_chosen p (set g j Left) j n below (omega (arith, size, inside)) (mark_same g j Left inside) in
    less ∙ ap (λ (h : List Mark). left_worth p h n + worth p j) (put_back g j Left Chosen chosen)

-- a place of less value is exchanged for another
pub worth_exchanged : (p : Clearing) (g : List Mark) (i j n : ℕ) → i < n → j < n → length (set g i Left) ≡ length g → j < length g → mark g i ≡ Chosen → mark g j ≡ Left →
    worth p i < worth p j → left_worth p (exchanged g i j) n < left_worth p g n
worth_exchanged p g i j n below inside size within chosen left less =
    let apart : j ≢ i = λ same. absurd (let other : mark g i ≡ Left = ap (mark g) (sym same) ∙ left in cc (chosen, other)) in
    let first = worth_left p g i n below size chosen in
    let still : mark (set g i Left) j ≡ Left = mark_other g i j Left apart ∙ left in
    let second = worth_chosen p (set g i Left) j n inside (omega (arith, size, within)) still in
    omega (arith, first, second, less)

pub worth_one : (p : Clearing) (j : ℕ) → IsProblem p → j < length p.items → 1 ≤ worth p j
worth_one p j limits within = (item_limits p j limits within).value_low

pub chosen_is : (m : Mark) → is_chosen m ≡ true → m ≡ Chosen
chosen_is Chosen told = refl
chosen_is Stranger told = absurd (cc told)
chosen_is Undecided told = absurd (cc told)
chosen_is Left told = absurd (cc told)

counts_most : (p : Clearing) (n : ℕ) (b : Bool) → counts p n b ≤ worth p n
counts_most p n true = omega arith
counts_most p n false = omega arith

counts_le : (p : Clearing) (n : ℕ) (f g : Mark) → (f ≡ Chosen → g ≡ Chosen) → counts p n (is_chosen g) ≤ counts p n (is_chosen f)
counts_le p n f g more = by_test (is_chosen f) {P = counts p n (is_chosen g) ≤ counts p n (is_chosen f)}
    (λ told. (let now : counts p n (is_chosen g) ≡ 0 = ap (λ m. counts p n (is_chosen m)) (more (chosen_is f told)) in omega (arith, now)))
    (λ other. (let was : counts p n (is_chosen f) ≡ worth p n = ap (counts p n) other in omega (arith, was, counts_most p n (is_chosen g))))

-- more places are chosen, and one of them anew
worth_le : (p : Clearing) (f g : List Mark) (n : ℕ) → ((j : ℕ) → j < n → mark f j ≡ Chosen → mark g j ≡ Chosen) → left_worth p g n ≤ left_worth p f n
worth_le p f g zero more = omega arith
worth_le p f g (suc n) more =
    let rest = worth_le p f g n (λ j below. more j (omega (arith, below))) in
    let last = counts_le p n (mark f n) (mark g n) (more n (omega arith)) in
    omega (arith, rest, last)

pub worth_more : (p : Clearing) (f g : List Mark) (n x : ℕ) → ((j : ℕ) → j < n → mark f j ≡ Chosen → mark g j ≡ Chosen) → x < n → mark g x ≡ Chosen → mark f x ≡ Left →
    1 ≤ worth p x → left_worth p g n < left_worth p f n
worth_more p f g zero x more below now was one = absurd (omega (arith, below))
worth_more p f g (suc n) x more below now was one = elim (cases_eq x n) as (λ _. left_worth p g (suc n) < left_worth p f (suc n)) [
  | inl last ↦
      let rest = worth_le p f g n (λ j less. more j (omega (arith, less))) in
      let new_ : counts p n (is_chosen (mark g n)) ≡ 0 = ap (λ m. counts p n (is_chosen m)) (ap (mark g) (sym last) ∙ now) in
      let old_ : counts p n (is_chosen (mark f n)) ≡ worth p n = ap (λ m. counts p n (is_chosen m)) (ap (mark f) (sym last) ∙ was) in
      let same : worth p n ≡ worth p x = ap (worth p) (sym last) in
      omega (arith, rest, new_, old_, same, one)
  | inr other ↦
      let rest = worth_more p f g n x (λ j less. more j (omega (arith, less))) (omega (arith, below, other)) now was one in
      let last = counts_le p n (mark f n) (mark g n) (more n (omega arith)) in
      omega (arith, rest, last)
]

-- a set and what it leaves are worth all places together
worth_whole : (p : Clearing) (g : List Mark) (n : ℕ) →
    pos (left_worth p g n) +ℤ sum_below (λ j. pick (is_chosen (mark g j)) (pos (worth p j))) n ≡ sum_below (λ j. pos (worth p j)) n
worth_whole p g zero = omega (arith, ints)
worth_whole p g (suc n) =
    let rest = worth_whole p g n in
    let last : pos (counts p n (is_chosen (mark g n))) +ℤ pick (is_chosen (mark g n)) (pos (worth p n)) ≡ pos (worth p n) = one (is_chosen (mark g n)) in
    omega (arith, ints, rest, last)
  where
    one : (b : Bool) → pos (counts p n b) +ℤ pick b (pos (worth p n)) ≡ pos (worth p n)
    one true = omega (arith, ints)
    one false = omega (arith, ints)

-- a set that leaves no more is worth no less
pub worth_no_less : (p : Clearing) (s t : List ℕ) (f g : List Mark) → ArePlaces p s → ArePlaces p t → AreMarksOf (length p.items) s f → AreMarksOf (length p.items) t g →
    left_worth p g (length p.items) ≤ left_worth p f (length p.items) → value_of p s ≤ value_of p t
worth_no_less p s t f g places_s places_t stands_f stands_g less =
    let n : ℕ = length p.items in
    let of_s : pos (value_of p s) ≡ sum_below (λ j. pick (is_chosen (mark f j)) (pos (worth p j))) n =
    value_in p s places_s ∙ sum_below_same (λ j. pick (is_in j s) (pos (worth p j))) (λ j. pick (is_chosen (mark f j)) (pos (worth p j))) n
    (λ j below. ap (λ b. pick b (pos (worth p j))) (sym (stands_is p s f j stands_f below))) in
    let of_t : pos (value_of p t) ≡ sum_below (λ j. pick (is_chosen (mark g j)) (pos (worth p j))) n =
    value_in p t places_t ∙ sum_below_same (λ j. pick (is_in j t) (pos (worth p j))) (λ j. pick (is_chosen (mark g j)) (pos (worth p j))) n
    (λ j below. ap (λ b. pick b (pos (worth p j))) (sym (stands_is p t g j stands_g below))) in
    omega (arith, ints, of_s, of_t, worth_whole p f n, worth_whole p g n, less)
