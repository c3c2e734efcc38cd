use Rattle.std.proofs.Common.{◌≡◌, ◌≢◌, inl, inr, ◌⊎◌, ℕ, zero, suc, ◌+◌, ◌<◌, ℤ, pos, ◌+ℤ◌, ◌≤ℤ◌, ◌<ℤ◌, Bool, true, false, ◌&&◌, ◌||◌, not, List, [], ◌∷◌, ◌++◌, length, get_or, set, refl, ap, sym, ◌∙◌, subst, arith, length-set}
use Rattle.std.specs.Bool.{Decides}
use Rattle.std.specs.List.{All, AllPairs, Contains, list_all}
use Rattle.std.proofs.lemmas.Bool.Decides.{Decides-by_and}
use Rattle.std.specs.Int.{int_max}
use Rattle.std.specs.Prelude.{if◌then◌else◌}
use Rattle.std.proofs.lemmas.Bool.{cases_eq}
use Rattle.std.proofs.lemmas.Int.{ints, clamps}
use Rattle.std.proofs.lemmas.List.Elements.{All-push, All-weaker, All-nil, Contains-append_left, Contains-push, Contains-push_cases}
use Rattle.std.proofs.lemmas.List.{append-nil}
use Rattle.std.proofs.lemmas.List.Quantifiers.{all_pairs_push}
use Rattle.dali_problem.specs.declared.row.Effect.{Effect}
use Rattle.dali_problem.specs.declared.mark.Mark.{Mark}
use Rattle.dali_problem.specs.declared.mark.Mark.TheVariants.{Undecided, Chosen, Left}
use Rattle.dali_problem.specs.Sums.{pick}
use Rattle.dali_problem.specs.Clearing.{Clearing, item_at, balance, effect}
use Rattle.dali_problem.specs.Feasible.{ArePlaces}
use Rattle.dali_problem.specs.Limits.{IsProblem}
use Rattle.dali_problem.specs.Partial.{mark, is_chosen, is_undecided, held}
use Rattle.dali_problem.specs.Rest.{credits_of}
use Rattle.dali_problem.specs.Rules.{is_negative, credits, is_short, is_barred}
use Rattle.dali_problem.proofs.Lines.{item_limits}
use Rattle.dali_problem.proofs.RuleTests.{present, undecided_is}
use Rattle.dali_problem.proofs.SetLaws.{is_in, contains_of, sum_over_in}
use Rattle.dali_problem.proofs.SumLaws.{sum_below_same, sum_below_le}
use Rattle.dali_problem.proofs.Turned.{held_turned, credits_turned, one_on_line}
use Rattle.dali_rest.specs.Room.{undecided_below}
use Rattle.dali_rest.specs.Turns.{IsPaid, AreUndecided, ArePaidFrom, IsTurn, undecided_count}
use Rattle.dali_rest.proofs.Marks.{mark_same, mark_other}
use Rattle.dali_rest.proofs.Sides.{nonneg, nonneg_of}
use Rattle.dali_rest.proofs.Standing.{by_test}

-- an undecided place is barred from a line that it debits exactly where the line doesn't pay it
barred_means : (p : Clearing) (f : List Mark) (j l : ℕ) → length f ≡ length p.items → j < length p.items → mark f j ≡ Undecided → effect p j l <ℤ pos 0 →
    is_barred p f j l ≡ is_negative (held p f l +ℤ effect p j l +ℤ credits p f l)
barred_means p f j l size within undec debit =
    let h = held_turned p f j l Chosen size within in
    let c = credits_turned p f j l Chosen size within in
    let was_chosen : pick (is_chosen (mark f j)) (effect p j l) ≡ pos 0 = ap (λ m. pick (is_chosen m) (effect p j l)) undec in
    let was_open : pick (is_undecided (mark f j)) (int_max (pos 0) (effect p j l)) ≡ int_max (pos 0) (effect p j l) = ap (λ m. pick (is_undecided m) (int_max (pos 0) (effect p j l))) undec in
    let sum : held p (set f j Chosen) l +ℤ credits p (set f j Chosen) l ≡ held p f l +ℤ effect p j l +ℤ credits p f l = omega (arith, ints, clamps, h, c, was_chosen, was_open, debit) in
    ap (λ m. is_undecided m && is_short p (set f j Chosen) l) undec ∙ ap is_negative sum

pub paid_from : (p : Clearing) (f : List Mark) (j : ℕ) → IsProblem p → length f ≡ length p.items → j < length p.items → mark f j ≡ Undecided →
    ((k : ℕ) (d : Effect) → k < length (item_at p j).effects → (get_or (item_at p j).effects k d).amount <ℤ pos 0 → is_barred p f j (get_or (item_at p j).effects k d).line ≡ false) →
    IsPaid p f j
paid_from p f j limits size within undec none =
    let d : Effect = record { line = 0; amount = pos 0 } in
    record {
      paid = (λ l below debit. elim (present l d (item_at p j).effects) as (λ _. pos 0 ≤ℤ (held p f l +ℤ effect p j l +ℤ credits p f l)) [
        | inl nothing ↦ absurd (omega (arith, ints, nothing, debit))
        | inr found ↦
            let amount : effect p j (get_or (item_at p j).effects found.0 d).line ≡ (get_or (item_at p j).effects found.0 d).amount =
            one_on_line (item_at p j).effects found.0 d (item_limits p j limits within).effects.rising found.1 in
            let same : effect p j (get_or (item_at p j).effects found.0 d).line ≡ effect p j l = ap (effect p j) found.2 in
            let down : (get_or (item_at p j).effects found.0 d).amount <ℤ pos 0 = omega (arith, ints, amount, same, debit) in
            let told : is_barred p f j l ≡ false = subst (λ k. is_barred p f j k ≡ false) found.2 (none found.0 d found.1 down) in
            nonneg_of (held p f l +ℤ effect p j l +ℤ credits p f l) (sym (barred_means p f j l size within undec debit) ∙ told)
      ]);
    }

pub barred_unpaid : (p : Clearing) (f : List Mark) (j k : ℕ) (d : Effect) → IsProblem p → length f ≡ length p.items → j < length p.items → mark f j ≡ Undecided →
    k < length (item_at p j).effects → (get_or (item_at p j).effects k d).amount <ℤ pos 0 → IsPaid p f j → is_barred p f j (get_or (item_at p j).effects k d).line ≡ false
barred_unpaid p f j k d limits size within undec below down paid =
    let l : ℕ = (get_or (item_at p j).effects k d).line in
    let item = item_limits p j limits within in
    let amount : effect p j l ≡ (get_or (item_at p j).effects k d).amount = one_on_line (item_at p j).effects k d item.effects.rising below in
    let debit : effect p j l <ℤ pos 0 = omega (arith, ints, amount, down) in
    barred_means p f j l size within undec debit ∙ nonneg (held p f l +ℤ effect p j l +ℤ credits p f l) (paid.paid l (item.effects.in_range k d below) debit)

negative : (z : ℤ) → z <ℤ pos 0 → is_negative z ≡ true
negative z down = grind (arith, ints)

negative_of : (z : ℤ) → is_negative z ≡ true → z <ℤ pos 0
negative_of z told = grind (arith, ints)

-- the test of a place's debits
abbrev pub bears : Clearing → List Mark → ℕ → Effect → Bool
bears p f j e = not (is_negative e.amount) || not (is_barred p f j e.line)

-- no line that it debits bars it exactly where each of them pays it
pub bears_paid : (p : Clearing) (f : List Mark) (j : ℕ) (told : Bool) → IsProblem p → length f ≡ length p.items → j < length p.items → mark f j ≡ Undecided →
    told ≡ list_all (bears p f j) (item_at p j).effects →
    (told ≡ true → IsPaid p f j) × (IsPaid p f j → told ≡ true)
bears_paid p f j told limits size within undec is =
    let all : Decides (list_all (bears p f j) (item_at p j).effects) (All (λ e. bears p f j e ≡ true) (item_at p j).effects) =
    Decides-by_and (bears p f j) (λ e. bears p f j e ≡ true) (list_all (bears p f j)) (λ e. (λ x. x, λ x. x)) refl (λ _ _. refl) (item_at p j).effects in (
      (λ yes. paid_from p f j limits size within undec (λ k d below down.
          unbarred (is_negative (get_or (item_at p j).effects k d).amount) (is_barred p f j (get_or (item_at p j).effects k d).line)
          (negative (get_or (item_at p j).effects k d).amount down) (all.0 (sym is ∙ yes) k d below))),
      (λ paid. is ∙ all.1 (λ k d below. by_test (is_negative (get_or (item_at p j).effects k d).amount)
          (λ down. ap (λ b. not (is_negative (get_or (item_at p j).effects k d).amount) || not b)
          (barred_unpaid p f j k d limits size within undec below (negative_of (get_or (item_at p j).effects k d).amount down) paid)
          ∙ or_true (not (is_negative (get_or (item_at p j).effects k d).amount)))
          (λ credit. ap (λ b. not b || not (is_barred p f j (get_or (item_at p j).effects k d).line)) credit))),
    )
  where
    unbarred : (a b : Bool) → a ≡ true → (not a || not b) ≡ true → b ≡ false
    unbarred true true first whole = absurd (cc whole)
    unbarred true false first whole = refl
    unbarred false b first whole = absurd (cc first)

    or_true : (a : Bool) → (a || true) ≡ true
    or_true true = refl
    or_true false = refl

-- a list of undecided places gives no more than all undecided places
up_le : (b : Bool) (m : Mark) (e : ℤ) → (b ≡ true → m ≡ Undecided) → pick b (int_max (pos 0) e) ≤ℤ pick (is_undecided m) (int_max (pos 0) e)
up_le true m e undec =
    let same : pick (is_undecided m) (int_max (pos 0) e) ≡ int_max (pos 0) e = ap (λ n. pick (is_undecided n) (int_max (pos 0) e)) (undec refl) in
    omega (arith, ints, same)
up_le false m e undec = by_test (is_undecided m) {P = pos 0 ≤ℤ pick (is_undecided m) (int_max (pos 0) e)}
    (λ told. (let is : pick (is_undecided m) (int_max (pos 0) e) ≡ int_max (pos 0) e = ap (λ b. pick b (int_max (pos 0) e)) told in omega (arith, ints, clamps, is)))
    (λ other. (let is : pick (is_undecided m) (int_max (pos 0) e) ≡ pos 0 = ap (λ b. pick b (int_max (pos 0) e)) other in omega (arith, ints, is)))

credits_le : (p : Clearing) (f : List Mark) (t : List ℕ) (l : ℕ) → ArePlaces p t → AreUndecided f t → credits_of p t l ≤ℤ credits p f l
credits_le p f t l places undec =
    let whole = sum_over_in (λ j. int_max (pos 0) (effect p j l)) t (length p.items) places.rising places.in_range in
    let each = sum_below_le (λ j. pick (is_in j t) (int_max (pos 0) (effect p j l))) (λ j. pick (is_undecided (mark f j)) (int_max (pos 0) (effect p j l))) (length p.items)
    (λ j below. up_le (is_in j t) (mark f j) (effect p j l) (λ told. undec.undecided j (contains_of t j told))) in
    omega (arith, ints, whole, each)

-- what lines hold stays through a turn
same_chosen : (p : Clearing) (f g : List Mark) (j : ℕ) → (mark g j ≡ mark f j) ⊎ ((mark f j ≡ Undecided) × (mark g j ≡ Left)) → is_chosen (mark g j) ≡ is_chosen (mark f j)
same_chosen p f g j turn = elim turn as (λ _. is_chosen (mark g j) ≡ is_chosen (mark f j)) [
  | inl same ↦ ap is_chosen same
  | inr taken ↦ ap is_chosen taken.1 ∙ sym (ap is_chosen taken.0)
]

pub turn_held : (p : Clearing) (f g : List Mark) (l : ℕ) → IsTurn p f g → held p g l ≡ held p f l
turn_held p f g l turn =
    ap (λ z. balance p l +ℤ z) (sum_below_same (λ j. pick (is_chosen (mark g j)) (effect p j l)) (λ j. pick (is_chosen (mark f j)) (effect p j l)) (length p.items)
    (λ j below. ap (λ b. pick b (effect p j l)) (same_chosen p f g j (turn.fewer j))))

pub turn_none : (p : Clearing) (f : List Mark) → IsTurn p f f
turn_none p f = record { size = refl; fewer = λ j. inl refl; keeps = λ t places undec paid. undec }

-- a place that isn't paid is in no list that can be paid
unpaid_out : (p : Clearing) (f g : List Mark) (j : ℕ) (t : List ℕ) → IsTurn p f g → ¬ (IsPaid p g j) → ArePlaces p t → AreUndecided g t → ArePaidFrom p (held p f) t → ¬ (Contains t j)
unpaid_out p f g j t turn unpaid places undec paid there = unpaid (record {
  paid = (λ l below debit.
      let up = paid.paid j l there below debit in
      let same = turn_held p f g l turn in
      omega (arith, ints, up, same, credits_le p g t l places undec));
})

pub turn_step : (p : Clearing) (f g h : List Mark) (j : ℕ) → length g ≡ length p.items → j < length p.items → mark g j ≡ Undecided → ¬ (IsPaid p g j) → h ≡ set g j Left →
    IsTurn p f g → IsTurn p f h
turn_step p f g h j size within undec unpaid put turn =
    let here : mark h j ≡ Left = ap (λ (k : List Mark). mark k j) put ∙ mark_same g j Left (omega (arith, size, within)) in
    let off : (k : ℕ) → k ≢ j → mark h k ≡ mark g k = λ k other. ap (λ (x : List Mark). mark x k) put ∙ mark_other g j k Left other in
    record {
      size = ap length put ∙ length-set g j Left ∙ turn.size;
      fewer = (λ k. elim (cases_eq k j) as (λ _. (mark h k ≡ mark f k) ⊎ ((mark f k ≡ Undecided) × (mark h k ≡ Left))) [
        | inl same ↦ elim (turn.fewer j) as (λ _. (mark h k ≡ mark f k) ⊎ ((mark f k ≡ Undecided) × (mark h k ≡ Left))) [
          | inl kept ↦ inr (ap (mark f) same ∙ sym kept ∙ undec, ap (mark h) same ∙ here)
          | inr taken ↦ absurd (cc (taken.1, undec))
        ]
        | inr other ↦ elim (turn.fewer k) as (λ _. (mark h k ≡ mark f k) ⊎ ((mark f k ≡ Undecided) × (mark h k ≡ Left))) [
          | inl kept ↦ inl (off k other ∙ kept)
          | inr taken ↦ inr (taken.0, off k other ∙ taken.1)
        ]
      ]);
      keeps = (λ t places opened paid.
          let still = turn.keeps t places opened paid in
          record { undecided = λ k there. off k (λ same. unpaid_out p f g j t turn unpaid places still paid (subst (Contains t) same there)) ∙ still.undecided k there });
    }

pub turn_both : (p : Clearing) (f g h : List Mark) → IsTurn p f g → IsTurn p g h → IsTurn p f h
turn_both p f g h first second = record {
  size = second.size ∙ first.size;
  fewer = (λ j. elim (second.fewer j) as (λ _. (mark h j ≡ mark f j) ⊎ ((mark f j ≡ Undecided) × (mark h j ≡ Left))) [
    | inl kept ↦ elim (first.fewer j) as (λ _. (mark h j ≡ mark f j) ⊎ ((mark f j ≡ Undecided) × (mark h j ≡ Left))) [
      | inl was ↦ inl (kept ∙ was)
      | inr taken ↦ inr (taken.0, kept ∙ taken.1)
    ]
    | inr gone ↦ elim (first.fewer j) as (λ _. (mark h j ≡ mark f j) ⊎ ((mark f j ≡ Undecided) × (mark h j ≡ Left))) [
      | inl was ↦ inr (sym was ∙ gone.0, gone.1)
      | inr taken ↦ absurd (cc (taken.1, gone.0))
    ]
  ]);
  keeps = (λ t places opened paid.
      let still = first.keeps t places opened paid in
      second.keeps t places still (record {
        paid = λ j l there below debit.
            (let up = paid.paid j l there below debit in let same = turn_held p f g l first in omega (arith, ints, up, same));
      }));
}

-- one undecided place less

count_same : (f g : List Mark) (n : ℕ) → ((j : ℕ) → j < n → mark g j ≡ mark f j) → undecided_count g n ≡ undecided_count f n
count_same f g zero same = refl
count_same f g (suc n) same =
    let rest = count_same f g n (λ j below. same j (omega (arith, below))) in
    ap (λ c. c + (if is_undecided (mark g n) then 1 else 0)) rest
    ∙ ap (λ m. undecided_count f n + (if is_undecided m then 1 else 0)) (same n (omega arith))

pub count_fewer : (f g : List Mark) (j n : ℕ) → g ≡ set f j Left → j < length f → j < n → mark f j ≡ Undecided → undecided_count g n < undecided_count f n
count_fewer f g j zero put inside below undec = absurd (omega (arith, below))
count_fewer f g j (suc n) put inside below undec =
    let off : (k : ℕ) → k ≢ j → mark g k ≡ mark f k = λ k other. ap (λ (x : List Mark). mark x k) put ∙ mark_other f j k Left other in
    elim (cases_eq j n) as (λ _. undecided_count g (suc n) < undecided_count f (suc n)) [
      | inl last ↦
          let rest : undecided_count g n ≡ undecided_count f n = count_same f g n (λ k less. off k (λ same. absurd (omega (arith, less, same, last)))) in
          let here : mark g n ≡ Left = ap (mark g) (sym last) ∙ ap (λ (x : List Mark). mark x j) put ∙ mark_same f j Left inside in
          let was : mark f n ≡ Undecided = ap (mark f) (sym last) ∙ undec in
          let new_ : undecided_count g (suc n) ≡ undecided_count g n + 0 = ap (λ m. undecided_count g n + (if is_undecided m then 1 else 0)) here in
          let old_ : undecided_count f (suc n) ≡ undecided_count f n + 1 = ap (λ m. undecided_count f n + (if is_undecided m then 1 else 0)) was in
          omega (arith, rest, new_, old_)
      | inr other ↦
          let less : undecided_count g n < undecided_count f n = count_fewer f g j n put inside (omega (arith, below, other)) undec in
          let tail : undecided_count g (suc n) ≡ undecided_count g n + (if is_undecided (mark f n) then 1 else 0) =
          ap (λ m. undecided_count g n + (if is_undecided m then 1 else 0)) (off n (λ same. other (sym same))) in
          omega (arith, less, tail)
    ]

-- the undecided places as a list
below_cases : (f : List Mark) (n : ℕ) → ((mark f n ≡ Undecided) × (undecided_below f (suc n) ≡ undecided_below f n ++ n ∷ []))
    ⊎ ((is_undecided (mark f n) ≡ false) × (undecided_below f (suc n) ≡ undecided_below f n ++ []))
below_cases f n = by_test (is_undecided (mark f n)) {P = ((mark f n ≡ Undecided) × (undecided_below f (suc n) ≡ undecided_below f n ++ n ∷ [])) ⊎ ((is_undecided (mark f n) ≡ false) × (undecided_below f (suc n) ≡ undecided_below f n ++ []))}
    (λ told. inl (undecided_is (mark f n) told, ap (λ (b : Bool). undecided_below f n ++ (if b then n ∷ [] else [])) told))
    (λ other. inr (other, ap (λ (b : Bool). undecided_below f n ++ (if b then n ∷ [] else [])) other))

pub below_range : (f : List Mark) (n : ℕ) → All (λ j. j < n) (undecided_below f n)
below_range f zero = All-nil (λ (j : ℕ). j < 0)
below_range f (suc n) =
    let wider = All-weaker (λ (j : ℕ). j < n) (λ (j : ℕ). j < suc n) (λ j less. omega (arith, less)) (undecided_below f n) (below_range f n) in
    elim (below_cases f n) as (λ _. All (λ j. j < suc n) (undecided_below f (suc n))) [
      | inl more ↦ subst (All (λ (j : ℕ). j < suc n)) (sym more.1) (All-push (λ (j : ℕ). j < suc n) (undecided_below f n) n wider (omega arith))
      | inr none ↦ subst (All (λ (j : ℕ). j < suc n)) (sym (none.1 ∙ append-nil (undecided_below f n))) wider
    ]

pub below_rising : (f : List Mark) (n : ℕ) → AllPairs (λ i j. i < j) (undecided_below f n)
below_rising f zero = λ i j d before within. absurd (omega (arith, within))
below_rising f (suc n) = elim (below_cases f n) as (λ _. AllPairs (λ i j. i < j) (undecided_below f (suc n))) [
  | inl more ↦ subst (AllPairs (λ (i j : ℕ). i < j)) (sym more.1)
      (all_pairs_push (λ (i j : ℕ). i < j) (undecided_below f n) n (below_rising f n) (λ k d below. below_range f n k d below))
  | inr none ↦ subst (AllPairs (λ (i j : ℕ). i < j)) (sym (none.1 ∙ append-nil (undecided_below f n))) (below_rising f n)
]

pub below_has : (f : List Mark) (n j : ℕ) → Contains (undecided_below f n) j → mark f j ≡ Undecided
below_has f zero j there = absurd (omega (arith, there.1))
below_has f (suc n) j there = elim (below_cases f n) as (λ _. mark f j ≡ Undecided) [
  | inl more ↦ elim (Contains-push_cases (undecided_below f n) n j (subst (λ (xs : List ℕ). Contains xs j) more.1 there)) as (λ _. mark f j ≡ Undecided) [
    | inl before ↦ below_has f n j before
    | inr here ↦ ap (mark f) (sym here) ∙ more.0
  ]
  | inr none ↦ below_has f n j (subst (λ (xs : List ℕ). Contains xs j) (none.1 ∙ append-nil (undecided_below f n)) there)
]

pub has_below : (f : List Mark) (n j : ℕ) → j < n → mark f j ≡ Undecided → Contains (undecided_below f n) j
has_below f zero j below undec = absurd (omega (arith, below))
has_below f (suc n) j below undec = elim (below_cases f n) as (λ _. Contains (undecided_below f (suc n)) j) [
  | inl more ↦ subst (λ (xs : List ℕ). Contains xs j) (sym more.1) (elim (cases_eq j n) as (λ _. Contains (undecided_below f n ++ n ∷ []) j) [
    | inl last ↦ subst (Contains (undecided_below f n ++ n ∷ [])) (sym last) (Contains-push (undecided_below f n) n)
    | inr other ↦ Contains-append_left (undecided_below f n) (n ∷ []) j (has_below f n j (omega (arith, below, other)) undec)
  ])
  | inr none ↦ subst (λ (xs : List ℕ). Contains xs j) (sym (none.1 ∙ append-nil (undecided_below f n))) (elim (cases_eq j n) as (λ _. Contains (undecided_below f n) j) [
    | inl last ↦ absurd (let told : is_undecided (mark f n) ≡ true = ap (λ k. is_undecided (mark f k)) (sym last) ∙ ap is_undecided undec in cc (told, none.0))
    | inr other ↦ has_below f n j (omega (arith, below, other)) undec
  ])
]
