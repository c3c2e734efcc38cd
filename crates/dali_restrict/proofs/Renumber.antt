use Rattle.std.proofs.Common.{◌≡◌, inl, inr, ℕ, ◌<◌, pos, ◌+ℤ◌, ◌≤ℤ◌, false, List, [], ◌∷◌, length, map, get_or, eqb, refl, ap, sym, ◌∙◌, arith}
use Rattle.std.specs.List.{All, Contains}
use Rattle.std.specs.Ordering.{int_eq}
use Rattle.std.proofs.lemmas.Bool.{cases_Bool, cases_lt}
use Rattle.std.proofs.lemmas.Bool.Decides.{Decides-int_eq}
use Rattle.std.proofs.lemmas.Int.{ints}
use Rattle.std.proofs.lemmas.List.{length-map, get_or-map, get_or_default}
use Rattle.std.proofs.lemmas.List.Elements.{All-head, All-tail}
use Rattle.dali_problem.specs.declared.row.LineRow.{LineRow}
use Rattle.dali_problem.specs.declared.row.Effect.{Effect}
use Rattle.dali_problem.specs.Sums.{sum_over, pick}
use Rattle.dali_problem.specs.Limits.{IsProblem}
use Rattle.dali_problem.specs.Clearing.{Item, Clearing, no_line, no_item, line_at, item_at, balance, worth, effect, on_line}
use Rattle.dali_problem.proofs.SetLaws.{is_in, is_in_of}
use Rattle.dali_fixes.proofs.Sets.{past_line}
use Rattle.dali_restrict.specs.Restriction.{old_of, wide_effect, wide_item, IsRestriction}
use Rattle.dali_restrict.proofs.Spread.{false_true, IsRise, old_eqb}

-- q is p on these places and lines, number by number; no place of it changes another line
pub record IsPart (p q : Clearing) (places lines : List ℕ) : Type 0 where
  pub members : IsRise (length p.items) places
  pub changed : IsRise (length p.lines) lines
  pub items_size : length q.items ≡ length places
  pub lines_size : length q.lines ≡ length lines
  pub same_balance : (k : ℕ) → k < length lines → balance q k ≡ balance p (old_of lines k)
  pub same_worth : (i : ℕ) → i < length places → worth q i ≡ worth p (old_of places i)
  pub same_effect : (i k : ℕ) → i < length places → k < length lines → effect q i k ≡ effect p (old_of places i) (old_of lines k)
  pub outside : (i l : ℕ) → i < length places → is_in l lines ≡ false → effect p (old_of places i) l ≡ pos 0

pub balance_nonneg : (p : Clearing) (l : ℕ) → pos 0 ≤ℤ balance p l
balance_nonneg p l = omega (arith, ints)

-- effects with the old numbers of their lines change the old line as they change the new one
wide_sum : (n : ℕ) (lines : List ℕ) (k : ℕ) (es : List Effect) → IsRise n lines → k < length lines → All (λ (e : Effect). e.line < length lines) es →
    sum_over (on_line (old_of lines k)) (map (wide_effect lines) es) ≡ sum_over (on_line k) es
wide_sum n lines k [] rise below within = refl
wide_sum n lines k (e ∷ es) rise below within =
    let same : eqb (old_of lines e.line) (old_of lines k) ≡ eqb e.line k =
    old_eqb n lines e.line k rise (All-head (λ (x : Effect). x.line < length lines) e es within) below in
    ap (λ b. pick b e.amount +ℤ sum_over (on_line (old_of lines k)) (map (wide_effect lines) es)) same
    ∙ ap (λ z. pick (eqb e.line k) e.amount +ℤ z) (wide_sum n lines k es rise below (All-tail (λ (x : Effect). x.line < length lines) e es within))

pub part_of : (p q : Clearing) (places lines : List ℕ) → IsProblem p → IsRestriction p places q lines → IsPart p q places lines
part_of p q places lines limits is = record {
  members = record { rising = is.places.rising; in_range = is.places.in_range };
  changed = rise;
  items_size = count;
  lines_size = ap length is.lines ∙ length-map lines (line_at p);
  same_balance = (λ k below. ap (λ (row : LineRow). pos row.balance)
      (ap (λ (rows : List LineRow). get_or rows k no_line) is.lines ∙ get_or-map (line_at p) lines k 0 no_line below));
  same_worth = (λ i below. ap (λ (item : Item). item.value) (item_is i below));
  same_effect = (λ i k below under.
      sym (wide_sum (length p.lines) lines k (item_at q i).effects rise under (is.within i no_item (omega (arith, below, count))))
      ∙ ap (λ (item : Item). sum_over (on_line (old_of lines k)) item.effects) (item_is i below));
  outside = (λ i l below out. elim (cases_Bool (int_eq (effect p (old_of places i) l) (pos 0))) as (λ _. effect p (old_of places i) l ≡ pos 0) [
    | inl none ↦ (Decides-int_eq (effect p (old_of places i) l) (pos 0)).0 none
    | inr some ↦ absurd (false_true (sym out ∙ is_in_of lines l ((is.changed.changed l).1
        (i, old_of places i, below, get_or_default places i (old_of places i) 0 below, λ same. false_true (sym some ∙ (Decides-int_eq (effect p (old_of places i) l) (pos 0)).1 same)))))
  ]);
}
  where
    line_below : (l : ℕ) → Contains lines l → l < length p.lines
    line_below l there = elim (cases_lt l (length p.lines)) as (λ _. l < length p.lines) [
      | inl within ↦ within
      | inr past ↦
          let some = (is.changed.changed l).0 there in
          absurd (some.4 (past_line p some.1 l limits past))
    ]

    rise : IsRise (length p.lines) lines
    rise = record {
      rising = is.changed.rising;
      in_range = (λ k d below. line_below (get_or lines k d) (k, below, get_or_default lines k (get_or lines k d) d below));
    }

    count : length q.items ≡ length places
    count = sym (length-map q.items (wide_item lines)) ∙ ap length is.items ∙ length-map places (item_at p)

    item_is : (i : ℕ) → i < length places → wide_item lines (item_at q i) ≡ item_at p (old_of places i)
    item_is i below =
        sym (get_or-map (wide_item lines) q.items i no_item no_item (omega (arith, below, count)))
        ∙ ap (λ (items : List Item). get_or items i no_item) is.items ∙ get_or-map (item_at p) places i 0 no_item below
