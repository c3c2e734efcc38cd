use Rattle.std.proofs.Common.{◌≡◌, inl, inr, ℕ, ℤ, pos, ◌+ℤ◌, ◌≤ℤ◌, Bool, true, false, ◌||◌, not, List, [], ◌∷◌, length, set, eqb, Some, None, if◌then◌else◌, refl, ap, sym, ◌∙◌, subst, arith, ◌<◌}
use Rattle.std.specs.Int.Signed.{lt_z}
use Rattle.std.proofs.lemmas.Bool.{cases_lt, cases_Bool, and_parts, or_cases, not-true}
use Rattle.std.proofs.lemmas.Bool.Decides.{Decides-below_and}
use Rattle.std.proofs.lemmas.Int.{ints}
use Rattle.std.proofs.lemmas.List.{length-set}
use Rattle.dali_problem.specs.declared.mark.Mark.{Mark}
use Rattle.dali_problem.specs.declared.mark.Mark.TheVariants.{Undecided, Chosen, Left}
use Rattle.dali_problem.specs.Sums.{pick}
use Rattle.dali_problem.specs.Clearing.{Clearing, worth, effect}
use Rattle.dali_problem.specs.Partial.{mark, is_undecided, held}
use Rattle.dali_problem.specs.Rules.{is_negative, debits, is_short, is_covered, all_below, is_safe}
use Rattle.dali_problem.proofs.SumLaws.{sum_below_le}
use Rattle.dali_problem.proofs.RuleTests.{undecided_is}
use Rattle.dali_problem.proofs.Opened.{within_undecided}
use Rattle.dali_tree.specs.declared.fix.Fix.{Fix}
use Rattle.dali_tree.specs.declared.fix.Fix.TheVariants.{Barred, Needed, Safe}
use Rattle.dali_fixes.specs.Fixed.{place_of, becomes, holds, after}
use Rattle.dali_fixes.proofs.Exchange.{goes_chosen, goes_left, with, with_here, with_goes, with_total}
use Rattle.dali_fixes.proofs.Sets.{total, worth_of, Covers, Goes, AtMost, Finds, line_least, short_none}
use Rattle.dali_marks.specs.OwnLines.{ChangesOwnLines}

up_from : (z : ℤ) → lt_z z (pos 0) ≡ false → pos 0 ≤ℤ z
up_from z told = grind (arith, ints)

-- with the place more, a line isn't negative: by the place's own credit, or since it pays whatever may be taken from it
gained : (p : Clearing) (w : ℕ → Bool) (j l : ℕ) → j < length p.items → w j ≡ false → pos 0 ≤ℤ total p w l →
    is_negative (effect p j l) ≡ false → pos 0 ≤ℤ total p (with j w) l
gained p w j l within gone up told =
    let credit = up_from (effect p j l) told in
    let more = with_total p w j l within gone in
    omega (arith, ints, more, up, credit)

paid : (p : Clearing) (f : List Mark) (w : ℕ → Bool) (l : ℕ) → Goes f w → is_negative (held p f l +ℤ debits p f l) ≡ false →
    pos 0 ≤ℤ total p w l
paid p f w l goes told =
    let least = line_least p f w l goes in
    let up = up_from (held p f l +ℤ debits p f l) told in
    omega (arith, ints, least, up)

-- the exchange: a safe place can be taken beside any set that goes
safe_covers : (p : Clearing) (f : List Mark) (w : ℕ → Bool) (j : ℕ) → ChangesOwnLines p → length f ≡ length p.items →
    is_safe p f j ≡ true → w j ≡ false → Covers p w → Goes f w → Covers p (with j w)
safe_covers p f w j own size safe gone covers goes =
    let parts = and_parts (is_undecided (mark f j)) (all_below (λ l. not (is_negative (effect p j l)) || is_covered p f l) (length p.lines)) safe in
    let undecided : mark f j ≡ Undecided = undecided_is (mark f j) parts.0 in
    let within : j < length p.items = omega (arith, within_undecided f j undecided, size) in
    let goes_with = with_goes f w j undecided goes in
    let each : (l : ℕ) → l < length p.lines → (not (is_negative (effect p j l)) || is_covered p f l) ≡ true =
    (Decides-below_and (λ l. not (is_negative (effect p j l)) || is_covered p f l)
    (λ l. (not (is_negative (effect p j l)) || is_covered p f l) ≡ true)
    (all_below (λ l. not (is_negative (effect p j l)) || is_covered p f l))
    (λ l. (λ x. x, λ x. x)) refl (λ _. refl) (length p.lines)).0 parts.1 in
    record {
      covered = (λ l. elim (cases_lt l (length p.lines)) as (λ _. pos 0 ≤ℤ total p (with j w) l) [
        | inl inside ↦ elim (or_cases (not (is_negative (effect p j l))) (is_covered p f l) (each l inside)) as (λ _. pos 0 ≤ℤ total p (with j w) l) [
          | inl credit ↦ gained p w j l within gone (covers.covered l) (not-true (is_negative (effect p j l)) credit)
          | inr pays ↦ paid p f (with j w) l goes_with (not-true (is_negative (held p f l +ℤ debits p f l)) pays)
        ]
        | inr past ↦
            let none = own.past j l past in
            let more = with_total p w j l within gone in
            let up = covers.covered l in
            omega (arith, ints, none, more, up)
      ]);
    }

with_worth : (p : Clearing) (w : ℕ → Bool) (j : ℕ) → worth_of p w ≤ℤ worth_of p (with j w)
with_worth p w j = sum_below_le (λ i. pick (w i) (pos (worth p i))) (λ i. pick (with j w i) (pos (worth p i))) (length p.items)
    (λ i below. more (eqb i j) (w i) (worth p i))
  where
    more : (a b : Bool) (n : ℕ) → pick b (pos n) ≤ℤ pick (a || b) (pos n)
    more true true n = omega (arith, ints)
    more true false n = omega (arith, ints)
    more false true n = omega (arith, ints)
    more false false n = omega (arith, ints)

-- a set that goes is one that is worth what it is worth
itself : (p : Clearing) (f : List Mark) (w : ℕ → Bool) → Covers p w → Goes f w → Finds p f (worth_of p w)
itself p f w covers goes = record { test = w; covers = covers; goes = goes; least = omega (arith, ints) }

-- what goes before a fix has something after it that is worth as much
fix_finds : (p : Clearing) (f : List Mark) (fix : Fix) (w : ℕ → Bool) → ChangesOwnLines p → length f ≡ length p.items →
    holds p f fix ≡ true → Covers p w → Goes f w → Finds p (set f (place_of fix) (becomes fix)) (worth_of p w)
unfolding holds
fix_finds p f (Barred j l) w own size told covers goes =
    let parts = and_parts (is_undecided (mark f j)) (is_short p (set f j Chosen) l) told in
    let within = within_undecided f j (undecided_is (mark f j) parts.0) in
    elim (cases_Bool (w j)) as (λ _. Finds p (set f j Left) (worth_of p w)) [
      | inl there ↦ absurd (short_none p (set f j Chosen) w l parts.1 covers (goes_chosen f w j within there goes))
      | inr gone ↦ itself p (set f j Left) w covers (goes_left f w j within gone goes)
    ]
fix_finds p f (Needed j l) w own size told covers goes =
    let parts = and_parts (is_undecided (mark f j)) (is_short p (set f j Left) l) told in
    let within = within_undecided f j (undecided_is (mark f j) parts.0) in
    elim (cases_Bool (w j)) as (λ _. Finds p (set f j Chosen) (worth_of p w)) [
      | inl there ↦ itself p (set f j Chosen) w covers (goes_chosen f w j within there goes)
      | inr gone ↦ absurd (short_none p (set f j Left) w l parts.1 covers (goes_left f w j within gone goes))
    ]
fix_finds p f (Safe j) w own size told covers goes =
    let parts = and_parts (is_undecided (mark f j)) (all_below (λ l. not (is_negative (effect p j l)) || is_covered p f l) (length p.lines)) told in
    let undecided : mark f j ≡ Undecided = undecided_is (mark f j) parts.0 in
    let within = within_undecided f j undecided in
    elim (cases_Bool (w j)) as (λ _. Finds p (set f j Chosen) (worth_of p w)) [
      | inl there ↦ itself p (set f j Chosen) w covers (goes_chosen f w j within there goes)
      | inr gone ↦ record {
        test = with j w;
        covers = safe_covers p f w j own size told gone covers goes;
        goes = goes_chosen f (with j w) j within (with_here w j j refl) (with_goes f w j undecided goes);
        least = with_worth p w j;
      }
    ]

-- the same of all fixes
fixes_find : (p : Clearing) (fixes : List Fix) (f g : List Mark) (w : ℕ → Bool) → ChangesOwnLines p → length f ≡ length p.items →
    after p fixes f ≡ Some g → Covers p w → Goes f w → Finds p g (worth_of p w)
fixes_find p [] f g w own size leads covers goes = itself p g w covers (subst (λ (h : List Mark). Goes h w) (some_is f g leads) goes)
  where
    some_is : (f g : List Mark) → Some f ≡ Some g → f ≡ g
    some_is f g is = cc
fixes_find p (fix ∷ fixes) f g w own size leads covers goes = elim (cases_Bool (holds p f fix)) as (λ _. Finds p g (worth_of p w)) [
  | inl told ↦
      let h : List Mark = set f (place_of fix) (becomes fix) in
      let next : after p fixes h ≡ Some g = sym (ap (λ b. if b then after p fixes h else None) told) ∙ leads in
      let same : length h ≡ length p.items = length-set f (place_of fix) (becomes fix) ∙ size in
      let first = fix_finds p f fix w own size told covers goes in
      let rest = fixes_find p fixes h g first.test own same next first.covers first.goes in
      record { test = rest.test; covers = rest.covers; goes = rest.goes; least = omega (arith, ints, first.least, rest.least) }
  | inr refused ↦ absurd (none_some g
      (sym (ap (λ b. if b then after p fixes (set f (place_of fix) (becomes fix)) else None) refused) ∙ leads))
]
  where
    none_some : (g : List Mark) → None ≡ Some g → ⊥
    none_some g is = cc

-- a bound after all fixes is a bound before them
pub fixes_keep : (p : Clearing) (fixes : List Fix) (f g : List Mark) (u : ℕ) → ChangesOwnLines p → length f ≡ length p.items →
    after p fixes f ≡ Some g → AtMost p g u → AtMost p f u
fixes_keep p fixes f g u own size leads bound = record {
  most = (λ w covers goes.
      let found = fixes_find p fixes f g w own size leads covers goes in
      let most = bound.most found.test found.covers found.goes in
      omega (arith, ints, found.least, most));
}
