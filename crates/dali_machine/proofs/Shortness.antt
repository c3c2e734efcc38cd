use Rattle.std.proofs.Common.{◌≡◌, ℕ, ◌<◌, ◌≤◌, ℤ, pos, neg_ℤ, ◌+ℤ◌, ◌-ℤ◌, ◌≤ℤ◌, ◌<ℤ◌, Bool, true, false, not, T, ◌&&◌, ◌||◌, true≢false, List, nat_lt, refl, sym, ap, ◌∙◌, subst, arith}
use Rattle.std.proofs.lemmas.Int.{ints}
use Rattle.std.proofs.lemmas.Bool.Decides.{nat_tests}
use Rattle.std.specs.Int.Signed.{lt_z, lt_z_yes, lt_z_no}
use Rattle.dali_account.specs.Book.{BookRecord, cash}
use Rattle.dali_account.specs.Units.{units_of}
use Rattle.dali_account.proofs.SumLemmas.{same_name_is, same_name_refl, same_name_symm}
use Rattle.dali_base.specs.declared.kind.Kind.{Kind}
use Rattle.dali_base.specs.declared.kind.Kind.TheVariants.{Dvp, Fop, Pay}
use Rattle.dali_base.specs.Readers.{same_bytes}
use Rattle.dali_problem.specs.Sums.{pick}
use Rattle.dali_queue.specs.declared.instruction.Instruction.{Instruction}
use Rattle.dali_queue.specs.Instruction.{IsInstruction, IsCash, is_payment, at_pair, moved, effect}
use Rattle.dali_machine.specs.Refusals.{lacks, is_short}

-- a sign is the answer of a test that goes with it
negative_as : (z : ℤ) (b : Bool) → (b ≡ true → z <ℤ pos 0) → (b ≡ false → pos 0 ≤ℤ z) → lt_z z (pos 0) ≡ b
negative_as z b below above = by (lt_z z (pos 0)) b refl below above
  where
    by : (s b : Bool) → lt_z z (pos 0) ≡ s → (b ≡ true → z <ℤ pos 0) → (b ≡ false → pos 0 ≤ℤ z) → s ≡ b
    by true true told below above = refl
    by false false told below above = refl
    by true false told below above =
        let less : z <ℤ pos 0 = lt_z_yes (subst T (sym told) tt) in
        let more = above refl in
        absurd (omega (arith, ints, less, more))
    by false true told below above =
        let more : pos 0 ≤ℤ z = lt_z_no (subst (λ t. T (not t)) (sym told) tt) in
        let less = below refl in
        absurd (omega (arith, ints, less, more))

pub less_told : (a b : ℕ) → a < b → nat_lt a b ≡ true
less_told a b h = grind (arith, nat_tests)

pub more_told : (a b : ℕ) → b ≤ a → nat_lt a b ≡ false
more_told a b h = grind (arith, nat_tests)

zero_never : (n : ℕ) → nat_lt n 0 ≡ false
zero_never n = grind (arith, nat_tests)

less_is : (a b : ℕ) → nat_lt a b ≡ true → a < b
less_is a b e = grind (arith, nat_tests)

more_is : (a b : ℕ) → nat_lt a b ≡ false → b ≤ a
more_is a b e = grind (arith, nat_tests)

taken : (n q : ℕ) (z : ℤ) → z ≡ neg_ℤ (pos q) → lt_z (pos n +ℤ z) (pos 0) ≡ nat_lt n q
taken n q z is = negative_as (pos n +ℤ z) (nat_lt n q)
    (λ e. let less = less_is n q e in omega (arith, ints, is, less))
    (λ e. let more = more_is n q e in omega (arith, ints, is, more))

given : (n q : ℕ) (z : ℤ) → z ≡ pos q → lt_z (pos n +ℤ z) (pos 0) ≡ false
given n q z is = negative_as (pos n +ℤ z) false (λ e. absurd (true≢false (sym e))) (λ e. omega (arith, ints, is))

pick_none : (b : Bool) → pick b (pos 0) ≡ pos 0
pick_none true = refl
pick_none false = refl

module _ (book : BookRecord) (i : Instruction) (kept : IsInstruction i) where
  apart : same_bytes i.giver i.taker ≡ false
  apart = kept.parties

  apart_back : same_bytes i.taker i.giver ≡ false
  apart_back = same_name_symm i.taker i.giver ∙ kept.parties

  -- where the code is cash, there is no cash beside it
  payment_alone : (k : Kind) (n : ℕ) → is_payment k ≡ true → IsCash k n → n ≡ 0
  payment_alone Dvp n e h = absurd (true≢false (sym e))
  payment_alone Fop n e h = absurd (true≢false (sym e))
  payment_alone Pay n e h = h

  -- a move of the asset at the pair of the account and the other asset
  own : (account asset other : List ℕ) (z : ℤ) → at_pair account asset z (account, other) ≡ pick (same_bytes asset other) z
  own account asset other z = ap (λ t. pick (t && same_bytes asset other) z) (same_name_refl account)

  foreign : (account asset other : List ℕ) (x : List ℕ) (z : ℤ) → same_bytes account x ≡ false → at_pair account asset z (x, other) ≡ pos 0
  foreign account asset other x z e = ap (λ t. pick (t && same_bytes asset other) z) e

  same_asset : (asset : List ℕ) (z : ℤ) → pick (same_bytes asset asset) z ≡ z
  same_asset asset z = ap (λ t. pick t z) (same_name_refl asset)

  cash_back : same_bytes cash i.code ≡ is_payment i.kind
  cash_back = same_name_symm cash i.code ∙ kept.code

  no_cash_beside : pick (same_bytes cash i.code) (pos i.cash) ≡ pos 0
  no_cash_beside = ap (λ t. pick t (pos i.cash)) cash_back ∙ by (is_payment i.kind) refl
    where
      by : (b : Bool) → is_payment i.kind ≡ b → pick b (pos i.cash) ≡ pos 0
      by true e = ap pos (payment_alone i.kind i.cash e kept.cash)
      by false e = refl

  -- its effects on its four pairs
  at_giver : effect i (i.giver, i.code) ≡ neg_ℤ (pos i.quantity)
  unfolding effect moved
  at_giver =
      let one = foreign i.taker i.code i.code i.giver (pos i.quantity) apart_back in
      let two = own i.giver i.code i.code (pos i.quantity) in
      let three = same_asset i.code (pos i.quantity) in
      let four = own i.giver cash i.code (pos i.cash) in
      let five = foreign i.taker cash i.code i.giver (pos i.cash) apart_back in
      let six = no_cash_beside in
      omega (arith, ints, one, two, three, four, five, six)

  at_taker : effect i (i.taker, i.code) ≡ pos i.quantity
  unfolding effect moved
  at_taker =
      let one = own i.taker i.code i.code (pos i.quantity) in
      let two = same_asset i.code (pos i.quantity) in
      let three = foreign i.giver i.code i.code i.taker (pos i.quantity) apart in
      let four = foreign i.giver cash i.code i.taker (pos i.cash) apart in
      let five = own i.taker cash i.code (pos i.cash) in
      let six = no_cash_beside in
      omega (arith, ints, one, two, three, four, five, six)

  cash_at_giver : effect i (i.giver, cash) ≡ pos i.cash -ℤ pick (same_bytes i.code cash) (pos i.quantity)
  unfolding effect moved
  cash_at_giver =
      let one = foreign i.taker i.code cash i.giver (pos i.quantity) apart_back in
      let two = own i.giver i.code cash (pos i.quantity) in
      let three = own i.giver cash cash (pos i.cash) in
      let four = same_asset cash (pos i.cash) in
      let five = foreign i.taker cash cash i.giver (pos i.cash) apart_back in
      omega (arith, ints, one, two, three, four, five)

  cash_at_taker : effect i (i.taker, cash) ≡ pick (same_bytes i.code cash) (pos i.quantity) -ℤ pos i.cash
  unfolding effect moved
  cash_at_taker =
      let one = own i.taker i.code cash (pos i.quantity) in
      let two = foreign i.giver i.code cash i.taker (pos i.quantity) apart in
      let three = foreign i.giver cash cash i.taker (pos i.cash) apart in
      let four = own i.taker cash cash (pos i.cash) in
      let five = same_asset cash (pos i.cash) in
      omega (arith, ints, one, two, three, four, five)

  abbrev bal : List ℕ → List ℕ → ℕ
  bal account asset = units_of book.balances (account, asset)

  one_of : (a b : Bool) → (a || (false || (a || (b || false)))) ≡ (a || b)
  one_of true b = refl
  one_of false true = refl
  one_of false false = refl

  two_of : (a b : Bool) → (a || (false || (false || (b || false)))) ≡ (a || b)
  two_of true b = refl
  two_of false true = refl
  two_of false false = refl

  tests : (a b c d a2 b2 c2 d2 : Bool) → a ≡ a2 → b ≡ b2 → c ≡ c2 → d ≡ d2 → (a || (b || (c || (d || false)))) ≡ (a2 || (b2 || (c2 || (d2 || false))))
  tests a b c d a2 b2 c2 d2 p q r s = ap (λ x. x || (b || (c || (d || false)))) p ∙ ap (λ x. a2 || (x || (c || (d || false)))) q ∙ ap (λ x. a2 || (b2 || (x || (d || false)))) r ∙ ap (λ x. a2 || (b2 || (c2 || (x || false)))) s

  -- it is short exactly where the giver has too few units or the taker too little cash
  pub short_is : is_short book i ≡ (nat_lt (bal i.giver i.code) i.quantity || nat_lt (bal i.taker cash) i.cash)
  short_is = by (is_payment i.kind) refl
    where
      by : (b : Bool) → is_payment i.kind ≡ b → is_short book i ≡ (nat_lt (bal i.giver i.code) i.quantity || nat_lt (bal i.taker cash) i.cash)
      by false e =
          let none : pick (same_bytes i.code cash) (pos i.quantity) ≡ pos 0 = ap (λ t. pick t (pos i.quantity)) (kept.code ∙ e) in
          let third : effect i (i.giver, cash) ≡ pos i.cash = cash_at_giver ∙ omega (arith, ints, none) in
          let fourth : effect i (i.taker, cash) ≡ neg_ℤ (pos i.cash) = cash_at_taker ∙ omega (arith, ints, none) in
          tests (lacks book i (i.giver, i.code)) (lacks book i (i.taker, i.code)) (lacks book i (i.giver, cash)) (lacks book i (i.taker, cash))
          (nat_lt (bal i.giver i.code) i.quantity) false false (nat_lt (bal i.taker cash) i.cash)
          (taken (bal i.giver i.code) i.quantity (effect i (i.giver, i.code)) at_giver)
          (given (bal i.taker i.code) i.quantity (effect i (i.taker, i.code)) at_taker)
          (given (bal i.giver cash) i.cash (effect i (i.giver, cash)) third)
          (taken (bal i.taker cash) i.cash (effect i (i.taker, cash)) fourth)
          ∙ two_of (nat_lt (bal i.giver i.code) i.quantity) (nat_lt (bal i.taker cash) i.cash)
      by true e =
          let is : i.code ≡ cash = same_name_is i.code cash (kept.code ∙ e) in
          let none : i.cash ≡ 0 = payment_alone i.kind i.cash e kept.cash in
          let all : pick (same_bytes i.code cash) (pos i.quantity) ≡ pos i.quantity = ap (λ t. pick t (pos i.quantity)) (kept.code ∙ e) in
          let fourth : effect i (i.taker, cash) ≡ pos i.quantity = cash_at_taker ∙ omega (arith, ints, all, none) in
          let third : lacks book i (i.giver, cash) ≡ nat_lt (bal i.giver i.code) i.quantity =
          ap (λ x. lacks book i (i.giver, x)) (sym is) ∙ taken (bal i.giver i.code) i.quantity (effect i (i.giver, i.code)) at_giver in
          let never : nat_lt (bal i.taker cash) i.cash ≡ false = ap (nat_lt (bal i.taker cash)) none ∙ zero_never (bal i.taker cash) in
          tests (lacks book i (i.giver, i.code)) (lacks book i (i.taker, i.code)) (lacks book i (i.giver, cash)) (lacks book i (i.taker, cash))
          (nat_lt (bal i.giver i.code) i.quantity) false (nat_lt (bal i.giver i.code) i.quantity) (nat_lt (bal i.taker cash) i.cash)
          (taken (bal i.giver i.code) i.quantity (effect i (i.giver, i.code)) at_giver)
          (given (bal i.taker i.code) i.quantity (effect i (i.taker, i.code)) at_taker)
          third
          (given (bal i.taker cash) i.quantity (effect i (i.taker, cash)) fourth ∙ sym never)
          ∙ one_of (nat_lt (bal i.giver i.code) i.quantity) (nat_lt (bal i.taker cash) i.cash)
