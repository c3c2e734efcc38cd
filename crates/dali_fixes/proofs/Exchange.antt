use Rattle.std.proofs.Common.{◌≡◌, ◌≢◌, inl, inr, ℕ, ◌<◌, ℤ, pos, ◌+ℤ◌, ◌≤ℤ◌, Bool, true, false, ◌||◌, not, List, [], ◌∷◌, length, set, eqb, Some, None, if◌then◌else◌, refl, ap, sym, ◌∙◌, subst, arith}
use Rattle.std.specs.Int.Signed.{lt_z}
use Rattle.std.proofs.lemmas.Bool.{cases_lt, cases_eq, cases_Bool, and_parts, or_cases, not-true}
use Rattle.std.proofs.lemmas.Bool.Decides.{eqb_tells, Decides-below_and}
use Rattle.std.proofs.lemmas.Int.{ints}
use Rattle.std.proofs.lemmas.List.{get_or-set_same, get_or-set_other, length-set}
use Rattle.dali_problem.specs.declared.mark.Mark.{Mark}
use Rattle.dali_problem.specs.declared.mark.Mark.TheVariants.{Stranger, Undecided, Chosen, Left}
use Rattle.dali_problem.specs.Sums.{pick}
use Rattle.dali_problem.specs.Clearing.{Clearing, worth, effect}
use Rattle.dali_problem.specs.Limits.{IsProblem}
use Rattle.dali_problem.specs.Partial.{mark, is_undecided, held}
use Rattle.dali_problem.specs.Rules.{is_negative, debits, is_short, is_covered, all_below, is_safe}
use Rattle.dali_problem.proofs.SumLaws.{sum_below_change, sum_below_le}
use Rattle.dali_problem.proofs.RuleTests.{undecided_is}
use Rattle.dali_problem.proofs.Opened.{within_undecided}
use Rattle.dali_tree.specs.declared.fix.Fix.{Fix}
use Rattle.dali_tree.specs.declared.fix.Fix.TheVariants.{Barred, Needed, Safe}
use Rattle.dali_fixes.specs.Fixed.{place_of, becomes, holds, after}
use Rattle.dali_fixes.proofs.Sets.{total, worth_of, Covers, Goes, AtMost, Finds, past_line, line_least, short_none}

-- the mark of a place after one place got another
set_here : (f : List Mark) (j i : ℕ) (m : Mark) → j < length f → i ≡ j → mark (set f j m) i ≡ m
set_here f j i m within same = ap (mark (set f j m)) same ∙ get_or-set_same f j m Stranger within

set_there : (f : List Mark) (j i : ℕ) (m : Mark) → i ≢ j → mark (set f j m) i ≡ mark f i
set_there f j i m other = get_or-set_other f j i m Stranger other

chosen_stranger : Chosen ≡ Stranger → ⊥
chosen_stranger is = cc

chosen_left : Chosen ≡ Left → ⊥
chosen_left is = cc

left_stranger : Left ≡ Stranger → ⊥
left_stranger is = cc

-- a set goes with the side on which it has the place
pub goes_chosen : (f : List Mark) (w : ℕ → Bool) (j : ℕ) → j < length f → w j ≡ true → Goes f w → Goes (set f j Chosen) w
goes_chosen f w j within there goes = record {
  chosen = (λ i is. elim (cases_eq i j) as (λ _. w i ≡ true) [
    | inl same ↦ ap w same ∙ there
    | inr other ↦ goes.chosen i (sym (set_there f j i Chosen other) ∙ is)
  ]);
  stranger = (λ i is. elim (cases_eq i j) as (λ _. w i ≡ false) [
    | inl same ↦ absurd (chosen_stranger (sym (set_here f j i Chosen within same) ∙ is))
    | inr other ↦ goes.stranger i (sym (set_there f j i Chosen other) ∙ is)
  ]);
  left = (λ i is. elim (cases_eq i j) as (λ _. w i ≡ false) [
    | inl same ↦ absurd (chosen_left (sym (set_here f j i Chosen within same) ∙ is))
    | inr other ↦ goes.left i (sym (set_there f j i Chosen other) ∙ is)
  ]);
}

pub goes_left : (f : List Mark) (w : ℕ → Bool) (j : ℕ) → j < length f → w j ≡ false → Goes f w → Goes (set f j Left) w
goes_left f w j within gone goes = record {
  chosen = (λ i is. elim (cases_eq i j) as (λ _. w i ≡ true) [
    | inl same ↦ absurd (chosen_left (sym is ∙ set_here f j i Left within same))
    | inr other ↦ goes.chosen i (sym (set_there f j i Left other) ∙ is)
  ]);
  stranger = (λ i is. elim (cases_eq i j) as (λ _. w i ≡ false) [
    | inl same ↦ absurd (left_stranger (sym (set_here f j i Left within same) ∙ is))
    | inr other ↦ goes.stranger i (sym (set_there f j i Left other) ∙ is)
  ]);
  left = (λ i is. elim (cases_eq i j) as (λ _. w i ≡ false) [
    | inl same ↦ ap w same ∙ gone
    | inr other ↦ goes.left i (sym (set_there f j i Left other) ∙ is)
  ]);
}

-- a set with one place more
abbrev pub with : ℕ → (ℕ → Bool) → ℕ → Bool
with j w i = eqb i j || w i

pub with_here : (w : ℕ → Bool) (j i : ℕ) → i ≡ j → with j w i ≡ true
with_here w j i same = elim (eqb_tells i j) as (λ _. with j w i ≡ true) [
  | inl is ↦ ap (λ b. b || w i) is.0
  | inr other ↦ absurd (other.1 same)
]

pub with_there : (w : ℕ → Bool) (j i : ℕ) → i ≢ j → with j w i ≡ w i
with_there w j i off = elim (eqb_tells i j) as (λ _. with j w i ≡ w i) [
  | inl is ↦ absurd (off is.1)
  | inr other ↦ ap (λ b. b || w i) other.0
]

-- an undecided place more leaves it going with the partial choice
pub with_goes : (f : List Mark) (w : ℕ → Bool) (j : ℕ) → mark f j ≡ Undecided → Goes f w → Goes f (with j w)
with_goes f w j undecided goes = record {
  chosen = (λ i is. elim (cases_eq i j) as (λ _. with j w i ≡ true) [
    | inl same ↦ with_here w j i same
    | inr other ↦ with_there w j i other ∙ goes.chosen i is
  ]);
  stranger = (λ i is. elim (cases_eq i j) as (λ _. with j w i ≡ false) [
    | inl same ↦ absurd (undecided_stranger (sym undecided ∙ sym (ap (mark f) same) ∙ is))
    | inr other ↦ with_there w j i other ∙ goes.stranger i is
  ]);
  left = (λ i is. elim (cases_eq i j) as (λ _. with j w i ≡ false) [
    | inl same ↦ absurd (undecided_left (sym undecided ∙ sym (ap (mark f) same) ∙ is))
    | inr other ↦ with_there w j i other ∙ goes.left i is
  ]);
}
  where
    undecided_stranger : Undecided ≡ Stranger → ⊥
    undecided_stranger is = cc

    undecided_left : Undecided ≡ Left → ⊥
    undecided_left is = cc

-- what a line has after the place more
pub with_total : (p : Clearing) (w : ℕ → Bool) (j l : ℕ) → j < length p.items → w j ≡ false →
    total p (with j w) l ≡ total p w l +ℤ effect p j l
with_total p w j l within gone =
    let change = sum_below_change (λ i. pick (w i) (effect p i l)) (λ i. pick (with j w i) (effect p i l)) (length p.items) j within
    (λ i below off. ap (λ b. pick b (effect p i l)) (with_there w j i off)) in
    let here : pick (with j w j) (effect p j l) ≡ effect p j l = ap (λ b. pick b (effect p j l)) (with_here w j j refl) in
    let was : pick (w j) (effect p j l) ≡ pos 0 = ap (λ b. pick b (effect p j l)) gone in
    omega (arith, ints, change, here, was)

-- the exchange: a safe place can be taken beside any set that goes
pub safe_covers : (p : Clearing) (f : List Mark) (w : ℕ → Bool) (j : ℕ) → IsProblem p → length f ≡ length p.items →
    is_safe p f j ≡ true → w j ≡ false → Covers p w → Goes f w → Covers p (with j w)
safe_covers p f w j limits size safe gone covers goes =
    let parts = and_parts (is_undecided (mark f j)) (all_below (λ l. not (is_negative (effect p j l)) || is_covered p f l) (length p.lines)) safe in
    let undecided : mark f j ≡ Undecided = undecided_is (mark f j) parts.0 in
    let within : j < length p.items = omega (arith, within_undecided f j undecided, size) in
    let goes_with = with_goes f w j undecided goes in
    let each : (l : ℕ) → l < length p.lines → (not (is_negative (effect p j l)) || is_covered p f l) ≡ true =
    (Decides-below_and (λ l. not (is_negative (effect p j l)) || is_covered p f l)
    (λ l. (not (is_negative (effect p j l)) || is_covered p f l) ≡ true)
    (all_below (λ l. not (is_negative (effect p j l)) || is_covered p f l))
    (λ l. (λ x. x, λ x. x)) refl (λ _. refl) (length p.lines)).0 parts.1 in
    record {
      covered = (λ l. elim (cases_lt l (length p.lines)) as (λ _. pos 0 ≤ℤ total p (with j w) l) [
        | inl inside ↦ elim (or_cases (not (is_negative (effect p j l))) (is_covered p f l) (each l inside)) as (λ _. pos 0 ≤ℤ total p (with j w) l) [
          | inl credit ↦ gained p w j l within gone (covers.covered l) (not-true (is_negative (effect p j l)) credit)
          | inr pays ↦ paid p f (with j w) l goes_with (not-true (is_negative (held p f l +ℤ debits p f l)) pays)
        ]
        | inr past ↦
            let none = past_line p j l limits past in
            let more = with_total p w j l within gone in
            let up = covers.covered l in
            omega (arith, ints, none, more, up)
      ]);
    }
  where
    up_from : (z : ℤ) → lt_z z (pos 0) ≡ false → pos 0 ≤ℤ z
    up_from z told = grind (arith, ints)

    gained : (p : Clearing) (w : ℕ → Bool) (j l : ℕ) → j < length p.items → w j ≡ false → pos 0 ≤ℤ total p w l →
        is_negative (effect p j l) ≡ false → pos 0 ≤ℤ total p (with j w) l
    gained p w j l within gone up told =
        let credit = up_from (effect p j l) told in
        let more = with_total p w j l within gone in
        omega (arith, ints, more, up, credit)

    paid : (p : Clearing) (f : List Mark) (w : ℕ → Bool) (l : ℕ) → Goes f w → is_negative (held p f l +ℤ debits p f l) ≡ false →
        pos 0 ≤ℤ total p w l
    paid p f w l goes told =
        let least = line_least p f w l goes in
        let up = up_from (held p f l +ℤ debits p f l) told in
        omega (arith, ints, least, up)

-- what it is worth after the place more
pub with_value : (p : Clearing) (w : ℕ → Bool) (j : ℕ) → j < length p.items → w j ≡ false →
    worth_of p (with j w) ≡ worth_of p w +ℤ pos (worth p j)
with_value p w j within gone =
    let change = sum_below_change (λ i. pick (w i) (pos (worth p i))) (λ i. pick (with j w i) (pos (worth p i))) (length p.items) j within
    (λ i below off. ap (λ b. pick b (pos (worth p i))) (with_there w j i off)) in
    let here : pick (with j w j) (pos (worth p j)) ≡ pos (worth p j) = ap (λ b. pick b (pos (worth p j))) (with_here w j j refl) in
    let was : pick (w j) (pos (worth p j)) ≡ pos 0 = ap (λ b. pick b (pos (worth p j))) gone in
    omega (arith, ints, change, here, was)

with_worth : (p : Clearing) (w : ℕ → Bool) (j : ℕ) → worth_of p w ≤ℤ worth_of p (with j w)
with_worth p w j = sum_below_le (λ i. pick (w i) (pos (worth p i))) (λ i. pick (with j w i) (pos (worth p i))) (length p.items)
    (λ i below. more (eqb i j) (w i) (worth p i))
  where
    more : (a b : Bool) (n : ℕ) → pick b (pos n) ≤ℤ pick (a || b) (pos n)
    more true true n = omega (arith, ints)
    more true false n = omega (arith, ints)
    more false true n = omega (arith, ints)
    more false false n = omega (arith, ints)

-- a bound on both sides of an undecided place is a bound
pub branch_keeps : (p : Clearing) (f : List Mark) (j u : ℕ) → is_undecided (mark f j) ≡ true →
    AtMost p (set f j Chosen) u → AtMost p (set f j Left) u → AtMost p f u
branch_keeps p f j u told inside outside =
    let within = within_undecided f j (undecided_is (mark f j) told) in
    record {
      most = (λ w covers goes. elim (cases_Bool (w j)) as (λ _. worth_of p w ≤ℤ pos u) [
        | inl there ↦ inside.most w covers (goes_chosen f w j within there goes)
        | inr gone ↦ outside.most w covers (goes_left f w j within gone goes)
      ]);
    }

-- where a line is short nothing is worth more than a bound
pub short_keeps : (p : Clearing) (f : List Mark) (l u : ℕ) → is_short p f l ≡ true → AtMost p f u
short_keeps p f l u short = record { most = (λ w covers goes. absurd (short_none p f w l short covers goes)) }

-- a set that goes is one that is worth what it is worth
itself : (p : Clearing) (f : List Mark) (w : ℕ → Bool) → Covers p w → Goes f w → Finds p f (worth_of p w)
itself p f w covers goes = record { test = w; covers = covers; goes = goes; least = omega (arith, ints) }

-- what goes before a fix has something after it that is worth as much
pub fix_finds : (p : Clearing) (f : List Mark) (fix : Fix) (w : ℕ → Bool) → IsProblem p → length f ≡ length p.items →
    holds p f fix ≡ true → Covers p w → Goes f w → Finds p (set f (place_of fix) (becomes fix)) (worth_of p w)
unfolding holds
fix_finds p f (Barred j l) w limits size told covers goes =
    let parts = and_parts (is_undecided (mark f j)) (is_short p (set f j Chosen) l) told in
    let within = within_undecided f j (undecided_is (mark f j) parts.0) in
    elim (cases_Bool (w j)) as (λ _. Finds p (set f j Left) (worth_of p w)) [
      | inl there ↦ absurd (short_none p (set f j Chosen) w l parts.1 covers (goes_chosen f w j within there goes))
      | inr gone ↦ itself p (set f j Left) w covers (goes_left f w j within gone goes)
    ]
fix_finds p f (Needed j l) w limits size told covers goes =
    let parts = and_parts (is_undecided (mark f j)) (is_short p (set f j Left) l) told in
    let within = within_undecided f j (undecided_is (mark f j) parts.0) in
    elim (cases_Bool (w j)) as (λ _. Finds p (set f j Chosen) (worth_of p w)) [
      | inl there ↦ itself p (set f j Chosen) w covers (goes_chosen f w j within there goes)
      | inr gone ↦ absurd (short_none p (set f j Left) w l parts.1 covers (goes_left f w j within gone goes))
    ]
fix_finds p f (Safe j) w limits size told covers goes =
    let parts = and_parts (is_undecided (mark f j)) (all_below (λ l. not (is_negative (effect p j l)) || is_covered p f l) (length p.lines)) told in
    let undecided : mark f j ≡ Undecided = undecided_is (mark f j) parts.0 in
    let within = within_undecided f j undecided in
    elim (cases_Bool (w j)) as (λ _. Finds p (set f j Chosen) (worth_of p w)) [
      | inl there ↦ itself p (set f j Chosen) w covers (goes_chosen f w j within there goes)
      | inr gone ↦ record {
        test = with j w;
        covers = safe_covers p f w j limits size told gone covers goes;
        goes = goes_chosen f (with j w) j within (with_here w j j refl) (with_goes f w j undecided goes);
        least = with_worth p w j;
      }
    ]

-- the same of all fixes
pub fixes_find : (p : Clearing) (fixes : List Fix) (f g : List Mark) (w : ℕ → Bool) → IsProblem p → length f ≡ length p.items →
    after p fixes f ≡ Some g → Covers p w → Goes f w → Finds p g (worth_of p w)
fixes_find p [] f g w limits size leads covers goes =
    itself p g w covers (subst (λ (h : List Mark). Goes h w) (some_is f g leads) goes)
  where
    some_is : (f g : List Mark) → Some f ≡ Some g → f ≡ g
    some_is f g is = cc
fixes_find p (fix ∷ fixes) f g w limits size leads covers goes = elim (cases_Bool (holds p f fix)) as (λ _. Finds p g (worth_of p w)) [
  | inl told ↦
      let h : List Mark = set f (place_of fix) (becomes fix) in
      let next : after p fixes h ≡ Some g = sym (ap (λ b. if b then after p fixes h else None) told) ∙ leads in
      let same : length h ≡ length p.items = length-set f (place_of fix) (becomes fix) ∙ size in
      let first = fix_finds p f fix w limits size told covers goes in
      let rest = fixes_find p fixes h g first.test limits same next first.covers first.goes in
      record { test = rest.test; covers = rest.covers; goes = rest.goes; least = omega (arith, ints, first.least, rest.least) }
  | inr refused ↦ absurd (none_some g
      (sym (ap (λ b. if b then after p fixes (set f (place_of fix) (becomes fix)) else None) refused) ∙ leads))
]
  where
    none_some : (g : List Mark) → None ≡ Some g → ⊥
    none_some g is = cc

-- a bound after all fixes is a bound before them
pub fixes_keep : (p : Clearing) (fixes : List Fix) (f g : List Mark) (u : ℕ) → IsProblem p → length f ≡ length p.items →
    after p fixes f ≡ Some g → AtMost p g u → AtMost p f u
fixes_keep p fixes f g u limits size leads bound = record {
  most = (λ w covers goes.
      let found = fixes_find p fixes f g w limits size leads covers goes in
      let most = bound.most found.test found.covers found.goes in
      omega (arith, ints, found.least, most));
}

-- fixes keep the number of places
pub after_length : (p : Clearing) (fixes : List Fix) (f g : List Mark) → after p fixes f ≡ Some g → length g ≡ length f
after_length p [] f g leads = ap length (some_is f g leads)
  where
    some_is : (f g : List Mark) → Some f ≡ Some g → g ≡ f
    some_is f g is = cc
after_length p (fix ∷ fixes) f g leads = elim (cases_Bool (holds p f fix)) as (λ _. length g ≡ length f) [
  | inl told ↦
      let next : after p fixes (set f (place_of fix) (becomes fix)) ≡ Some g =
      sym (ap (λ b. if b then after p fixes (set f (place_of fix) (becomes fix)) else None) told) ∙ leads in
      after_length p fixes (set f (place_of fix) (becomes fix)) g next ∙ length-set f (place_of fix) (becomes fix)
  | inr refused ↦ absurd (none_some g
      (sym (ap (λ b. if b then after p fixes (set f (place_of fix) (becomes fix)) else None) refused) ∙ leads))
]
  where
    none_some : (g : List Mark) → None ≡ Some g → ⊥
    none_some g is = cc
