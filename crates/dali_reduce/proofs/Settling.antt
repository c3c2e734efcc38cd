use Rattle.std.proofs.Common.{◌≡◌, ◌≢◌, ◌⊎◌, inl, inr, ℕ, zero, suc, ◌+◌, ◌<◌, ◌≤◌, ℤ, pos, Bool, true, false, ◌&&◌, ◌||◌, eqb, Some, List, [], ◌∷◌, ◌++◌, length, set, get_or, take, ltb, leb, MatchBool, refl, ap, sym, ◌∙◌, subst, arith}
use Rattle.std.specs.List.{All}
use Rattle.std.specs.Ordering.{int_eq}
use Rattle.std.specs.Prelude.{if◌then◌else◌}
use Rattle.std.proofs.lemmas.Bool.{cases_Bool, cases_lt, cases_eq, ltb-true, leb-true, le-leb, and_left, and_parts}
use Rattle.std.proofs.lemmas.Bool.Decides.{eqb_tells, Decides-int_eq}
use Rattle.std.proofs.lemmas.List.{append-nil, append_assoc, length-append, length-set, get_or-set_same, get_or_append_left, get_or_at, get_or_past}
use Rattle.std.proofs.lemmas.List.Elements.{All-nil, All-append, All-cons, All-head, All-more}
use Rattle.dali_problem.specs.declared.columns.Touch.{Touch}
use Rattle.dali_problem.specs.declared.mark.Mark.{Mark}
use Rattle.dali_problem.specs.declared.mark.Mark.TheVariants.{Stranger, Undecided, Chosen, Left}
use Rattle.dali_problem.specs.Clearing.{Clearing, effect}
use Rattle.dali_problem.specs.Partial.{mark, is_undecided}
use Rattle.dali_problem.specs.Rules.{is_negative, is_short, is_barred, is_needed, is_safe, all_below}
use Rattle.dali_problem.specs.Touches.{touch_by, touches_below, touches}
use Rattle.dali_problem.proofs.Opened.{within_undecided}
use Rattle.dali_tree.specs.declared.fix.Fix.{Fix}
use Rattle.dali_tree.specs.declared.fix.Fix.TheVariants.{Barred, Needed, Safe}
use Rattle.dali_tree.specs.Fits.{fix_fits}
use Rattle.dali_fixes.specs.Fixed.{place_of, becomes, holds, after}
use Rattle.dali_reduce.specs.Reduced.{IsReduced}
use Rattle.dali_reduce.specs.Run.{GoesOn, Waits, IsQuiet, MayTurn, IsSettledBut, Clears, IsTouch, IsStill, IsUnmoved}
use Rattle.dali_reduce.proofs.Taken.{holds_undecided, first_taken, becomes_decided}
use Rattle.dali_reduce.proofs.Turning.{changes_cases, turn_quiet, turn_unsafe, quiet_off, asks}

true_false : true ≡ false → ⊥
true_false is = cc

-- what waits still waits after more fixes, and a fix more makes its lines wait
pub waits_more : (p : Clearing) (fixes more : List Fix) (n l : ℕ) → Waits p fixes n l → Waits p (fixes ++ more) n l
waits_more p fixes more n l waits = record {
  number = waits.number;
  since = waits.since;
  within = omega (arith, waits.within, length-append fixes more);
  changed = λ d. subst (λ (x : Fix). effect p (place_of x) l ≢ pos 0) (sym (get_or_append_left fixes more d waits.number waits.within)) (waits.changed d);
}

pub waits_last : (p : Clearing) (fixes : List Fix) (x : Fix) (n l : ℕ) → n ≤ length fixes → effect p (place_of x) l ≢ pos 0 → Waits p (fixes ++ x ∷ []) n l
waits_last p fixes x n l from changed = record {
  number = length fixes;
  since = from;
  within = omega (arith, length-append fixes (x ∷ []));
  changed = λ d. subst (λ (y : Fix). effect p (place_of y) l ≢ pos 0) (sym (get_or_at fixes x [] d (length fixes) refl)) changed;
}

pub waits_since : (p : Clearing) (fixes : List Fix) (m n l : ℕ) → n ≤ m → Waits p fixes m l → Waits p fixes n l
waits_since p fixes m n l earlier waits = record {
  number = waits.number;
  since = omega (arith, earlier, waits.since);
  within = waits.within;
  changed = waits.changed;
}

-- one fix more
settled_take : (p : Clearing) (f : List Mark) (fixes : List Fix) (x : Fix) (n : ℕ) (lines places : ℕ → Bool) → length f ≡ length p.items →
    holds p f x ≡ true → n ≤ length fixes → IsSettledBut p f fixes n lines places →
    IsSettledBut p (set f (place_of x) (becomes x)) (fixes ++ x ∷ []) n lines places
settled_take p f fixes x n lines places size told from settled =
    let i : ℕ = place_of x in
    let within : i < length p.items = omega (arith, within_undecided f i (holds_undecided p f x told), size) in
    let off : is_undecided (becomes x) ≡ false = becomes_decided x in
    record {
      quiet = (λ l below. elim (settled.quiet l below) as (λ _. (lines l ≡ true) ⊎ (Waits p (fixes ++ x ∷ []) n l ⊎ IsQuiet p (set f i (becomes x)) l)) [
        | inl look ↦ inl look
        | inr rest ↦ elim rest as (λ _. (lines l ≡ true) ⊎ (Waits p (fixes ++ x ∷ []) n l ⊎ IsQuiet p (set f i (becomes x)) l)) [
          | inl waits ↦ inr (inl (waits_more p fixes (x ∷ []) n l waits))
          | inr quiet ↦ elim (changes_cases p i l) as (λ _. (lines l ≡ true) ⊎ (Waits p (fixes ++ x ∷ []) n l ⊎ IsQuiet p (set f i (becomes x)) l)) [
            | inl none ↦ inr (inr (turn_quiet p f i l (becomes x) size within off none quiet))
            | inr changed ↦ inr (inl (waits_last p fixes x n l from changed))
          ]
        ]
      ]);
      unsafe = (λ j below. elim (settled.unsafe j below) as (λ _. (places j ≡ true) ⊎ ((is_safe p (set f i (becomes x)) j ≡ false) ⊎ MayTurn p (fixes ++ x ∷ []) n lines j)) [
        | inl look ↦ inl look
        | inr rest ↦ elim rest as (λ _. (places j ≡ true) ⊎ ((is_safe p (set f i (becomes x)) j ≡ false) ⊎ MayTurn p (fixes ++ x ∷ []) n lines j)) [
          | inr may ↦ inr (inr (record {
            line = may.line;
            debited = may.debited;
            looked = elim may.looked as (λ _. (lines may.line ≡ true) ⊎ Waits p (fixes ++ x ∷ []) n may.line) [
              | inl look ↦ inl look
              | inr waits ↦ inr (waits_more p fixes (x ∷ []) n may.line waits)
            ];
          }))
          | inl stays ↦ elim (turn_unsafe p f i j (becomes x) size within off stays) as (λ _. (places j ≡ true) ⊎ ((is_safe p (set f i (becomes x)) j ≡ false) ⊎ MayTurn p (fixes ++ x ∷ []) n lines j)) [
            | inl still ↦ inr (inl still)
            | inr meets ↦ inr (inr (record { line = meets.line; debited = meets.debited; looked = inr (waits_last p fixes x n meets.line from meets.changed) }))
          ]
        ]
      ]);
    }

-- more fixes
settled_after : (p : Clearing) (more : List Fix) (f g : List Mark) (fixes : List Fix) (n : ℕ) (lines places : ℕ → Bool) → length f ≡ length p.items →
    after p more f ≡ Some g → n ≤ length fixes → IsSettledBut p f fixes n lines places → IsSettledBut p g (fixes ++ more) n lines places
settled_after p [] f g fixes n lines places size leads from settled =
    subst (λ (h : List Mark). IsSettledBut p h (fixes ++ []) n lines places) (some_is f g leads)
    (subst (λ (xs : List Fix). IsSettledBut p f xs n lines places) (sym (append-nil fixes)) settled)
  where
    some_is : (f g : List Mark) → Some f ≡ Some g → f ≡ g
    some_is f g is = cc
settled_after p (x ∷ xs) f g fixes n lines places size leads from settled =
    let first = first_taken p x xs f g leads in
    subst (λ (ys : List Fix). IsSettledBut p g ys n lines places) (append_assoc fixes (x ∷ []) xs)
    (settled_after p xs (set f (place_of x) (becomes x)) g (fixes ++ x ∷ []) n lines places (length-set f (place_of x) (becomes x) ∙ size) first.1
    (omega (arith, from, length-append fixes (x ∷ []))) (settled_take p f fixes x n lines places size first.0 from settled))

pub settled_goes : (p : Clearing) (f g : List Mark) (old new : List Fix) (n : ℕ) (lines places : ℕ → Bool) → length f ≡ length p.items →
    GoesOn p f g old new → n ≤ length old → IsSettledBut p f old n lines places → IsSettledBut p g new n lines places
settled_goes p f g old new n lines places size goes from settled =
    subst (λ (xs : List Fix). IsSettledBut p g xs n lines places) (sym goes.added)
    (settled_after p goes.more f g old n lines places size goes.leads from settled)

-- more lines to be looked at
pub settled_wider : (p : Clearing) (f : List Mark) (fixes : List Fix) (n : ℕ) (lines wider places : ℕ → Bool) → ((l : ℕ) → lines l ≡ true → wider l ≡ true) →
    IsSettledBut p f fixes n lines places → IsSettledBut p f fixes n wider places
settled_wider p f fixes n lines wider places more settled = record {
  quiet = (λ l below. elim (settled.quiet l below) as (λ _. (wider l ≡ true) ⊎ (Waits p fixes n l ⊎ IsQuiet p f l)) [
    | inl look ↦ inl (more l look)
    | inr rest ↦ inr rest
  ]);
  unsafe = (λ j below. elim (settled.unsafe j below) as (λ _. (places j ≡ true) ⊎ ((is_safe p f j ≡ false) ⊎ MayTurn p fixes n wider j)) [
    | inl look ↦ inl look
    | inr rest ↦ elim rest as (λ _. (places j ≡ true) ⊎ ((is_safe p f j ≡ false) ⊎ MayTurn p fixes n wider j)) [
      | inl stays ↦ inr (inl stays)
      | inr may ↦ inr (inr (record {
        line = may.line;
        debited = may.debited;
        looked = elim may.looked as (λ _. (wider may.line ≡ true) ⊎ Waits p fixes n may.line) [
          | inl look ↦ inl (more may.line look)
          | inr waits ↦ inr waits
        ];
      }))
    ]
  ]);
}

-- the touches of a line: each place that changes it, and no other
int_false : (z : ℤ) → int_eq z (pos 0) ≡ false → z ≢ pos 0
int_false z told is = true_false (sym ((Decides-int_eq z (pos 0)).1 is) ∙ told)

touch_cases : (j : ℕ) (z : ℤ) → ((z ≡ pos 0) × (touch_by j z ≡ [])) ⊎ ((z ≢ pos 0) × (touch_by j z ≡ record { place = j; amount = z } ∷ []))
touch_cases j z = elim (cases_Bool (int_eq z (pos 0))) as (λ _. ((z ≡ pos 0) × (touch_by j z ≡ [])) ⊎ ((z ≢ pos 0) × (touch_by j z ≡ record { place = j; amount = z } ∷ []))) [
  | inl none ↦ inl ((Decides-int_eq z (pos 0)).0 none, ap (by_test j z) none)
  | inr some ↦ inr (int_false z some, ap (by_test j z) some)
]
  where
    by_test : ℕ → ℤ → Bool → List Touch
    by_test j z b = if b then [] else record { place = j; amount = z } ∷ []

touch_below : (p : Clearing) (l n : ℕ) → n ≤ length p.items → All (IsTouch p l) (touches_below p l n)
touch_below p l zero within = All-nil (IsTouch p l)
touch_below p l (suc n) within =
    let before = touch_below p l n (omega (arith, within)) in
    elim (touch_cases n (effect p n l)) as (λ _. All (IsTouch p l) (touches_below p l (suc n))) [
      | inl none ↦ subst (λ (ts : List Touch). All (IsTouch p l) (touches_below p l n ++ ts)) (sym none.1)
          (subst (All (IsTouch p l)) (sym (append-nil (touches_below p l n))) before)
      | inr some ↦ subst (λ (ts : List Touch). All (IsTouch p l) (touches_below p l n ++ ts)) (sym some.1)
          (All-append (IsTouch p l) (touches_below p l n) (record { place = n; amount = effect p n l } ∷ []) before
          (All-cons (IsTouch p l) (record { place = n; amount = effect p n l }) [] (record { place = omega (arith, within); amount = refl; changes = some.0 }) (All-nil (IsTouch p l))))
    ]

pub are_touches : (p : Clearing) (l : ℕ) → All (IsTouch p l) (touches p l)
are_touches p l = touch_below p l (length p.items) (omega arith)

-- a place that changes the line is among them
pub record HasTouch (j : ℕ) (ts : List Touch) : Type 0 where
  pub number : ℕ
  pub within : number < length ts
  pub place : (d : Touch) → (get_or ts number d).place ≡ j

has_below : (p : Clearing) (l n j : ℕ) → j < n → effect p j l ≢ pos 0 → HasTouch j (touches_below p l n)
has_below p l zero j below changed = absurd (omega (arith, below))
has_below p l (suc n) j below changed = elim (cases_eq j n) as (λ _. HasTouch j (touches_below p l (suc n))) [
  | inr other ↦
      let before = has_below p l n j (omega (arith, below, other)) changed in
      record {
        number = before.number;
        within = omega (arith, before.within, length-append (touches_below p l n) (touch_by n (effect p n l)));
        place = λ d. ap (λ (t : Touch). t.place) (get_or_append_left (touches_below p l n) (touch_by n (effect p n l)) d before.number before.within) ∙ before.place d;
      }
  | inl last ↦ elim (touch_cases n (effect p n l)) as (λ _. HasTouch j (touches_below p l (suc n))) [
    | inl none ↦ absurd (changed (ap (λ k. effect p k l) last ∙ none.0))
    | inr some ↦ subst (λ (ts : List Touch). HasTouch j (touches_below p l n ++ ts)) (sym some.1) (record {
      number = length (touches_below p l n);
      within = omega (arith, length-append (touches_below p l n) (record { place = n; amount = effect p n l } ∷ []));
      place = λ d. ap (λ (t : Touch). t.place) (get_or_at (touches_below p l n) (record { place = n; amount = effect p n l }) [] d (length (touches_below p l n)) refl) ∙ sym last;
    })
  ]
]

pub has_touch : (p : Clearing) (l j : ℕ) → effect p j l ≢ pos 0 → j < length p.items → HasTouch j (touches p l)
has_touch p l j changed within = has_below p l (length p.items) j within changed

-- where no rule holds for the places of a line, the line is quiet, and none that debits it is safe
pub still_quiet : (p : Clearing) (f : List Mark) (l : ℕ) → length f ≡ length p.items → is_short p f l ≡ false →
    All (IsStill p f l) (touches p l) → IsQuiet p f l
still_quiet p f l size long still = record {
  long = long;
  barred = (λ j. elim (changes_cases p j l) as (λ _. is_barred p f j l ≡ false) [
    | inl none ↦ quiet_off p f j l Chosen size none long
    | inr changed ↦ by_touch j (λ k. is_barred p f k l ≡ false) changed (outside j Chosen) (λ t stays. stays.barred)
  ]);
  needed = (λ j. elim (changes_cases p j l) as (λ _. is_needed p f j l ≡ false) [
    | inl none ↦ quiet_off p f j l Left size none long
    | inr changed ↦ by_touch j (λ k. is_needed p f k l ≡ false) changed (outside j Left) (λ t stays. stays.needed)
  ]);
}
  where
    outside : (j : ℕ) (side : Mark) → length p.items ≤ j → (is_undecided (mark f j) && is_short p (set f j side) l) ≡ false
    outside j side past = and_left (is_undecided (mark f j)) (is_short p (set f j side) l) (ap is_undecided (get_or_past f j Stranger (omega (arith, size, past))))

    by_touch : (j : ℕ) (P : ℕ → Type 0) → effect p j l ≢ pos 0 → (length p.items ≤ j → P j) → ((t : Touch) → IsStill p f l t → P t.place) → P j
    by_touch j P changed out each = elim (cases_lt j (length p.items)) as (λ _. P j) [
      | inl within ↦
          let has = has_below p l (length p.items) j within changed in
          let d : Touch = record { place = 0; amount = pos 0 } in
          subst P (has.place d) (each (get_or (touches p l) has.number d) (still has.number d has.within))
      | inr past ↦ out past
    ]

pub still_unsafe : (p : Clearing) (f : List Mark) (l j : ℕ) → All (IsStill p f l) (touches p l) → j < length p.items → is_negative (effect p j l) ≡ true →
    is_safe p f j ≡ false
still_unsafe p f l j still within debited =
    let changed : effect p j l ≢ pos 0 = λ none. true_false (sym debited ∙ ap is_negative none) in
    let has = has_below p l (length p.items) j within changed in
    let d : Touch = record { place = 0; amount = pos 0 } in
    let t : Touch = get_or (touches p l) has.number d in
    let is_touch = are_touches p l has.number d has.within in
    let amount : t.amount ≡ effect p j l = is_touch.amount ∙ ap (λ k. effect p k l) (has.place d) in
    subst (λ k. is_safe p f k ≡ false) (has.place d) ((still has.number d has.within).unsafe (ap is_negative amount ∙ debited))

-- a line is the one that was looked at, or is to be looked at still
eqb_or : (a b : ℕ) (c : Bool) → (eqb a b || c) ≡ true → (a ≡ b) ⊎ (c ≡ true)
eqb_or a b c told = elim (eqb_tells a b) as (λ _. (a ≡ b) ⊎ (c ≡ true)) [
  | inl same ↦ inl same.1
  | inr other ↦ inr (sym (ap (λ d. d || c) other.0) ∙ told)
]

-- what a walk over a line leaves: either a fix that changes the line waits, or no rule is left on it
pub line_clears : (p : Clearing) (f g : List Mark) (old new : List Fix) (l : ℕ) → length f ≡ length p.items → is_short p f l ≡ false →
    GoesOn p f g old new → (Waits p new (length old) l ⊎ IsUnmoved p f g old new l (touches p l)) → Clears p f g old new (λ k. eqb l k)
line_clears p f g old new l size long goes stands = record {
  clears = (λ n lines places from settled. elim stands as (λ _. IsSettledBut p g new n lines places) [
    | inl waits ↦ looked_at p g new n l lines places (waits_since p new (length old) n l from waits)
        (settled_goes p f g old new n (λ k. eqb l k || lines k) places size goes from settled)
    | inr unmoved ↦
        subst (λ (h : List Mark). IsSettledBut p h new n lines places) (sym unmoved.marks)
        (subst (λ (xs : List Fix). IsSettledBut p f xs n lines places) (sym unmoved.fixes)
        (left_still p f old n l lines places (still_quiet p f l size long unmoved.still)
        (λ j within debited. still_unsafe p f l j unmoved.still within debited) settled))
  ]);
}
  where
    looked_at : (p : Clearing) (f : List Mark) (fixes : List Fix) (n l : ℕ) (lines places : ℕ → Bool) → Waits p fixes n l →
        IsSettledBut p f fixes n (λ k. eqb l k || lines k) places → IsSettledBut p f fixes n lines places
    looked_at p f fixes n l lines places waits settled = record {
      quiet = (λ k below. elim (settled.quiet k below) as (λ _. (lines k ≡ true) ⊎ (Waits p fixes n k ⊎ IsQuiet p f k)) [
        | inr rest ↦ inr rest
        | inl look ↦ elim (eqb_or l k (lines k) look) as (λ _. (lines k ≡ true) ⊎ (Waits p fixes n k ⊎ IsQuiet p f k)) [
          | inl same ↦ inr (inl (subst (Waits p fixes n) same waits))
          | inr still ↦ inl still
        ]
      ]);
      unsafe = (λ j below. elim (settled.unsafe j below) as (λ _. (places j ≡ true) ⊎ ((is_safe p f j ≡ false) ⊎ MayTurn p fixes n lines j)) [
        | inl look ↦ inl look
        | inr rest ↦ elim rest as (λ _. (places j ≡ true) ⊎ ((is_safe p f j ≡ false) ⊎ MayTurn p fixes n lines j)) [
          | inl stays ↦ inr (inl stays)
          | inr may ↦ inr (inr (record {
            line = may.line;
            debited = may.debited;
            looked = elim may.looked as (λ _. (lines may.line ≡ true) ⊎ Waits p fixes n may.line) [
              | inr waits_there ↦ inr waits_there
              | inl look ↦ elim (eqb_or l may.line (lines may.line) look) as (λ _. (lines may.line ≡ true) ⊎ Waits p fixes n may.line) [
                | inl same ↦ inr (subst (Waits p fixes n) same waits)
                | inr still ↦ inl still
              ]
            ];
          }))
        ]
      ]);
    }

    left_still : (p : Clearing) (f : List Mark) (fixes : List Fix) (n l : ℕ) (lines places : ℕ → Bool) → IsQuiet p f l →
        ((j : ℕ) → j < length p.items → is_negative (effect p j l) ≡ true → is_safe p f j ≡ false) →
        IsSettledBut p f fixes n (λ k. eqb l k || lines k) places → IsSettledBut p f fixes n lines places
    left_still p f fixes n l lines places quiet unsafe settled = record {
      quiet = (λ k below. elim (settled.quiet k below) as (λ _. (lines k ≡ true) ⊎ (Waits p fixes n k ⊎ IsQuiet p f k)) [
        | inr rest ↦ inr rest
        | inl look ↦ elim (eqb_or l k (lines k) look) as (λ _. (lines k ≡ true) ⊎ (Waits p fixes n k ⊎ IsQuiet p f k)) [
          | inl same ↦ inr (inr (subst (IsQuiet p f) same quiet))
          | inr still ↦ inl still
        ]
      ]);
      unsafe = (λ j below. elim (settled.unsafe j below) as (λ _. (places j ≡ true) ⊎ ((is_safe p f j ≡ false) ⊎ MayTurn p fixes n lines j)) [
        | inl look ↦ inl look
        | inr rest ↦ elim rest as (λ _. (places j ≡ true) ⊎ ((is_safe p f j ≡ false) ⊎ MayTurn p fixes n lines j)) [
          | inl stays ↦ inr (inl stays)
          | inr may ↦ elim may.looked as (λ _. (places j ≡ true) ⊎ ((is_safe p f j ≡ false) ⊎ MayTurn p fixes n lines j)) [
            | inr waits_there ↦ inr (inr (record { line = may.line; debited = may.debited; looked = inr waits_there }))
            | inl look ↦ elim (eqb_or l may.line (lines may.line) look) as (λ _. (places j ≡ true) ⊎ ((is_safe p f j ≡ false) ⊎ MayTurn p fixes n lines j)) [
              | inl same ↦ inr (inl (unsafe j below (ap (λ k. is_negative (effect p j k)) same ∙ may.debited)))
              | inr still ↦ inr (inr (record { line = may.line; debited = may.debited; looked = inl still }))
            ]
          ]
        ]
      ]);
    }

-- lines looked at one after the other
pub clears_none : (p : Clearing) (f : List Mark) (fixes : List Fix) (cleared : ℕ → Bool) → ((l : ℕ) → cleared l ≡ false) → Clears p f f fixes fixes cleared
clears_none p f fixes cleared none = record {
  clears = (λ n lines places from settled. settled_wider p f fixes n (λ l. cleared l || lines l) lines places
      (λ l told. sym (ap (λ b. b || lines l) (none l)) ∙ told) settled);
}

pub clears_both : (p : Clearing) (f g h : List Mark) (a b c : List Fix) (first second both : ℕ → Bool) → ((l : ℕ) → both l ≡ (first l || second l)) → length a ≤ length b →
    Clears p f g a b first → Clears p g h b c second → Clears p f h a c both
clears_both p f g h a b c first second both is longer one two = record {
  clears = (λ n lines places from settled. two.clears n lines places (omega (arith, from, longer))
      (one.clears n (λ l. second l || lines l) places from
      (settled_wider p f a n (λ l. both l || lines l) (λ l. first l || (second l || lines l)) places
      (λ l told. or_or (first l) (second l) (lines l) (sym (ap (λ x. x || lines l) (is l)) ∙ told)) settled)));
}
  where
    or_or : (x y z : Bool) → ((x || y) || z) ≡ true → (x || (y || z)) ≡ true
    or_or true y z told = refl
    or_or false y z told = told

-- where nothing is left to be looked at, nothing is left to fix
pub settled_reduced : (p : Clearing) (f : List Mark) (fixes : List Fix) (n : ℕ) → length fixes ≤ n → IsSettledBut p f fixes n (λ _. false) (λ _. false) → IsReduced p f
unfolding holds
settled_reduced p f fixes n past settled = record { none = none }
  where
    false_true : false ≡ true → ⊥
    false_true is = cc

    no_wait : (l : ℕ) → Waits p fixes n l → ⊥
    no_wait l waits = omega (arith, past, waits.since, waits.within)

    line_quiet : (l : ℕ) → l < length p.lines → IsQuiet p f l
    line_quiet l below = elim (settled.quiet l below) as (λ _. IsQuiet p f l) [
      | inl look ↦ absurd (false_true look)
      | inr rest ↦ elim rest as (λ _. IsQuiet p f l) [
        | inl waits ↦ absurd (no_wait l waits)
        | inr quiet ↦ quiet
      ]
    ]

    place_unsafe : (j : ℕ) → j < length p.items → is_safe p f j ≡ false
    place_unsafe j below = elim (settled.unsafe j below) as (λ _. is_safe p f j ≡ false) [
      | inl look ↦ absurd (false_true look)
      | inr rest ↦ elim rest as (λ _. is_safe p f j ≡ false) [
        | inl stays ↦ stays
        | inr may ↦ elim may.looked as (λ _. is_safe p f j ≡ false) [
          | inl look ↦ absurd (false_true look)
          | inr waits ↦ absurd (no_wait may.line waits)
        ]
      ]
    ]

    none : (x : Fix) → fix_fits (length p.items) (length p.lines) x ≡ true → holds p f x ≡ false
    none (Barred j l) fits = (line_quiet l (ltb-true l (length p.lines) (and_parts (ltb j (length p.items)) (ltb l (length p.lines)) fits).1)).barred j
    none (Needed j l) fits = (line_quiet l (ltb-true l (length p.lines) (and_parts (ltb j (length p.items)) (ltb l (length p.lines)) fits).1)).needed j
    none (Safe j) fits = place_unsafe j (ltb-true j (length p.items) fits)

-- as many fixes as before, or more
pub goes_longer : (p : Clearing) (f g : List Mark) (old new : List Fix) → GoesOn p f g old new → length old ≤ length new
goes_longer p f g old new goes =
    let size : length new ≡ length (old ++ goes.more) = ap length goes.added in
    omega (arith, size, length-append old goes.more)

pub waits_goes : (p : Clearing) (f g : List Mark) (old new : List Fix) (n l : ℕ) → GoesOn p f g old new → Waits p old n l → Waits p new n l
waits_goes p f g old new n l goes waits = subst (λ (xs : List Fix). Waits p xs n l) (sym goes.added) (waits_more p old goes.more n l waits)

-- one touch more was tried
pub walk_step : (p : Clearing) (f g h : List Mark) (a b c : List Fix) (l i : ℕ) (ts : List Touch) (d touch : Touch) (taken : Bool) → i < length ts →
    touch ≡ get_or ts i d → GoesOn p f g a b → GoesOn p g h b c → Waits p b (length a) l ⊎ IsUnmoved p f g a b l (take i ts) →
    MatchBool taken (Waits p c (length b) l) (IsUnmoved p g h b c l (touch ∷ [])) →
    Waits p c (length a) l ⊎ IsUnmoved p f h a c l (take (i + 1) ts)
walk_step p f g h a b c l i ts d touch taken within read first second (inl waits) told = inl (waits_goes p g h b c (length a) l second waits)
walk_step p f g h a b c l i ts d touch true within read first second (inr unmoved) told =
    inl (waits_since p c (length b) (length a) l (goes_longer p f g a b first) told)
walk_step p f g h a b c l i ts d touch false within read first second (inr unmoved) told =
    let here : IsStill p f l touch =
    subst (λ (m : List Mark). IsStill p m l touch) unmoved.marks (All-head (IsStill p g l) touch [] told.still) in
    inr (record {
      marks = told.marks ∙ unmoved.marks;
      fixes = told.fixes ∙ unmoved.fixes;
      still = All-more (IsStill p f l) ts i d within unmoved.still (subst (IsStill p f l) read here);
    })

-- a place more was asked whether it is safe
pub safe_step : (p : Clearing) (f : List Mark) (fixes : List Fix) (lines : ℕ → Bool) (i : ℕ) → is_safe p f i ≡ false →
    IsSettledBut p f fixes 0 lines (λ j. leb i j) → IsSettledBut p f fixes 0 lines (λ j. leb (i + 1) j)
safe_step p f fixes lines i unsafe settled = record {
  quiet = settled.quiet;
  unsafe = (λ j below. elim (settled.unsafe j below) as (λ _. (leb (i + 1) j ≡ true) ⊎ ((is_safe p f j ≡ false) ⊎ MayTurn p fixes 0 lines j)) [
    | inr rest ↦ inr rest
    | inl look ↦ elim (cases_eq j i) as (λ _. (leb (i + 1) j ≡ true) ⊎ ((is_safe p f j ≡ false) ⊎ MayTurn p fixes 0 lines j)) [
      | inl same ↦ inr (inl (ap (is_safe p f) same ∙ unsafe))
      | inr other ↦ inl (le-leb (i + 1) j (omega (arith, leb-true i j look, other)))
    ]
  ]);
}

-- a place that was decided isn't safe
pub decided_unsafe : (p : Clearing) (f : List Mark) (i : ℕ) (m : Mark) → mark f i ≡ Undecided → is_undecided m ≡ false → is_safe p (set f i m) i ≡ false
decided_unsafe p f i m was decided =
    ap (λ b. b && all_below (asks p (set f i m) i) (length p.lines))
    (ap is_undecided (get_or-set_same f i m Stranger (within_undecided f i was)) ∙ decided)

-- at first everything is to be looked at, and at last no place
pub settled_first : (p : Clearing) (f : List Mark) (fixes : List Fix) (places : ℕ → Bool) → ((j : ℕ) → places j ≡ true) → IsSettledBut p f fixes 0 (λ _. true) places
settled_first p f fixes places all = record { quiet = λ l below. inl refl; unsafe = λ j below. inl (all j) }

pub places_done : (p : Clearing) (f : List Mark) (fixes : List Fix) (lines places : ℕ → Bool) → ((j : ℕ) → j < length p.items → places j ≡ false) →
    IsSettledBut p f fixes 0 lines places → IsSettledBut p f fixes 0 lines (λ _. false)
places_done p f fixes lines places none settled = record {
  quiet = settled.quiet;
  unsafe = (λ j below. elim (settled.unsafe j below) as (λ _. (false ≡ true) ⊎ ((is_safe p f j ≡ false) ⊎ MayTurn p fixes 0 lines j)) [
    | inr rest ↦ inr rest
    | inl look ↦ absurd (true_false (sym look ∙ none j below))
  ]);
}

pub lines_done : (p : Clearing) (f : List Mark) (fixes : List Fix) (lines : ℕ → Bool) (places : ℕ → Bool) → ((l : ℕ) → length p.lines ≤ l ⊎ (lines l ≡ false)) →
    ((j l : ℕ) → is_negative (effect p j l) ≡ true → l < length p.lines) →
    IsSettledBut p f fixes 0 lines places → IsSettledBut p f fixes 0 (λ _. false) places
lines_done p f fixes lines places none debits settled = record {
  quiet = (λ l below. elim (settled.quiet l below) as (λ _. (false ≡ true) ⊎ (Waits p fixes 0 l ⊎ IsQuiet p f l)) [
    | inr rest ↦ inr rest
    | inl look ↦ absurd (gone l below look)
  ]);
  unsafe = (λ j below. elim (settled.unsafe j below) as (λ _. (places j ≡ true) ⊎ ((is_safe p f j ≡ false) ⊎ MayTurn p fixes 0 (λ _. false) j)) [
    | inl look ↦ inl look
    | inr rest ↦ elim rest as (λ _. (places j ≡ true) ⊎ ((is_safe p f j ≡ false) ⊎ MayTurn p fixes 0 (λ _. false) j)) [
      | inl stays ↦ inr (inl stays)
      | inr may ↦ elim may.looked as (λ _. (places j ≡ true) ⊎ ((is_safe p f j ≡ false) ⊎ MayTurn p fixes 0 (λ _. false) j)) [
        | inr waits ↦ inr (inr (record { line = may.line; debited = may.debited; looked = inr waits }))
        | inl look ↦ absurd (gone may.line (debits j may.line may.debited) look)
      ]
    ]
  ]);
}
  where
    gone : (l : ℕ) → l < length p.lines → lines l ≡ true → ⊥
    gone l below look = elim (none l) as (λ _. ⊥) [
      | inl past ↦ omega (arith, below, past)
      | inr off ↦ true_false (sym look ∙ off)
    ]
