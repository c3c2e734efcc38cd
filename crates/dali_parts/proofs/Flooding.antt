use Rattle.std.proofs.Common.{◌≡◌, ◌≢◌, ◌⊎◌, inl, inr, ℕ, zero, suc, ◌+◌, ◌<◌, ◌≤◌, pos, Bool, true, false, not, cond, Option, Some, None, is_some, List, [], ◌∷◌, ◌++◌, length, take, get_or, set, refl, ap, sym, ◌∙◌, subst, arith}
use Rattle.std.specs.List.{All, Contains}
use Rattle.std.proofs.lemmas.Bool.{cases_eq, cases_lt, cases_Bool}
use Rattle.std.proofs.lemmas.List.{length-set, get_or-set_same, get_or-set_other, get_or_past, length-append, set-get_or, get_or_read}
use Rattle.std.proofs.lemmas.List.Elements.{Contains-append_left, Contains-append_cases, Contains-append_right, Contains-push, Contains-push_cases, All-more}
use Rattle.std.proofs.lemmas.List.Sums.{sum_by-set}
use Rattle.dali_problem.specs.declared.columns.Touch.{Touch}
use Rattle.dali_problem.specs.declared.row.Effect.{Effect}
use Rattle.dali_problem.specs.Sums.{sum_over}
use Rattle.dali_problem.specs.Clearing.{Clearing, item_at, effect, on_line}
use Rattle.dali_problem.specs.Limits.{IsProblem}
use Rattle.dali_problem.proofs.Lines.{item_limits}
use Rattle.dali_problem.proofs.RuleTests.{present}
use Rattle.dali_problem.proofs.Turned.{one_on_line}
use Rattle.dali_problem.specs.Touches.{touches}
use Rattle.dali_reduce.specs.Run.{IsTouch}
use Rattle.dali_reduce.proofs.Settling.{are_touches, has_touch}
use Rattle.dali_parts.specs.Finest.{Share, Linked}
use Rattle.dali_parts.specs.Flood.{class_at, was_seen, IsFlooding, Grows, Got, Had, Enters, Spreads, Sees, open_count}
use Rattle.dali_parts.proofs.Links.{linked_refl, linked_both, linked_share, linked_back, change_within}

true_false : true ≡ false → ⊥
true_false is = cc

none_some : (c : ℕ) → None ≡ Some c → ⊥
none_some c is = cc

same_some : (c d : ℕ) → Some c ≡ Some d → c ≡ d
same_some c d is = cc

here : (classes : List (Option ℕ)) (k j : ℕ) (o : Option ℕ) → k < length classes → j ≡ k → class_at (set classes k o) j ≡ o
here classes k j o within same = ap (class_at (set classes k o)) same ∙ get_or-set_same classes k o None within

there : (classes : List (Option ℕ)) (k j : ℕ) (o : Option ℕ) → j ≢ k → class_at (set classes k o) j ≡ class_at classes j
there classes k j o other = get_or-set_other classes k j o None other

-- a place without a class is of no line that was seen
unseen : (p : Clearing) (class : ℕ) (classes : List (Option ℕ)) (seen : List Bool) (waiting : List ℕ) (k l : ℕ) → IsFlooding p class classes seen waiting →
    class_at classes k ≡ None → effect p k l ≢ pos 0 → was_seen seen l ≡ true → ⊥
unseen p class classes seen waiting k l flooding none changed told =
    true_false (sym (flooding.same l k k told changed changed).0 ∙ ap is_some none)

-- a place more gets the class, where each place of the class is linked to it
pub enter_step : (p : Clearing) (class : ℕ) (classes : List (Option ℕ)) (seen : List Bool) (waiting : List ℕ) (k : ℕ) → k < length p.items →
    class_at classes k ≡ None → ((j : ℕ) → class_at classes j ≡ Some class → Linked p j k) → IsFlooding p class classes seen waiting →
    IsFlooding p class (set classes k (Some class)) seen (waiting ++ k ∷ [])
enter_step p class classes seen waiting k within none links flooding =
    let inside : k < length classes = omega (arith, within, flooding.size) in
    record {
      size = length-set classes k (Some class) ∙ flooding.size;
      lines = flooding.lines;
      linked = (λ i j c one two. elim (cases_eq i k) as (λ _. Linked p i j) [
        | inl first ↦ elim (cases_eq j k) as (λ _. Linked p i j) [
          | inl second ↦ subst (λ n. Linked p n j) (sym first) (subst (λ n. Linked p k n) (sym second) (linked_refl p k))
          | inr off ↦
              let is : class ≡ c = same_some class c (sym (here classes k i (Some class) inside first) ∙ one) in
              subst (λ n. Linked p n j) (sym first) (linked_back p j k (links j (sym (there classes k j (Some class) off) ∙ two ∙ ap Some (sym is))))
        ]
        | inr out ↦ elim (cases_eq j k) as (λ _. Linked p i j) [
          | inl second ↦
              let is : class ≡ c = same_some class c (sym (here classes k j (Some class) inside second) ∙ two) in
              subst (λ n. Linked p i n) (sym second) (links i (sym (there classes k i (Some class) out) ∙ one ∙ ap Some (sym is)))
          | inr off ↦ flooding.linked i j c (sym (there classes k i (Some class) out) ∙ one) (sym (there classes k j (Some class) off) ∙ two)
        ]
      ]);
      same = (λ l i j told one two.
          let i_off : i ≢ k = λ same. unseen p class classes seen waiting k l flooding none (subst (λ n. effect p n l ≢ pos 0) same one) told in
          let j_off : j ≢ k = λ same. unseen p class classes seen waiting k l flooding none (subst (λ n. effect p n l ≢ pos 0) same two) told in
          let was = flooding.same l i j told one two in
          (ap is_some (there classes k i (Some class) i_off) ∙ was.0, there classes k i (Some class) i_off ∙ was.1 ∙ sym (there classes k j (Some class) j_off)));
      done = (λ j c l is changed. elim (cases_eq j k) as (λ _. (was_seen seen l ≡ true) ⊎ Contains (waiting ++ k ∷ []) j) [
        | inl same ↦ inr (subst (Contains (waiting ++ k ∷ [])) (sym same) (Contains-push waiting k))
        | inr off ↦ elim (flooding.done j c l (sym (there classes k j (Some class) off) ∙ is) changed) as (λ _. (was_seen seen l ≡ true) ⊎ Contains (waiting ++ k ∷ []) j) [
          | inl told ↦ inl told
          | inr waits ↦ inr (Contains-append_left waiting (k ∷ []) j waits)
        ]
      ]);
      waits = (λ j waits. elim (Contains-push_cases waiting k j waits) as (λ _. class_at (set classes k (Some class)) j ≡ Some class) [
        | inr same ↦ here classes k j (Some class) inside (sym same)
        | inl before ↦
            let was = flooding.waits j before in
            there classes k j (Some class) (λ same. none_some class (sym none ∙ ap (class_at classes) (sym same) ∙ was)) ∙ was
      ]);
    }

-- a line was seen whose places are all of the class
pub see_step : (p : Clearing) (class : ℕ) (classes : List (Option ℕ)) (seen : List Bool) (waiting : List ℕ) (l : ℕ) → l < length p.lines →
    ((k : ℕ) → effect p k l ≢ pos 0 → class_at classes k ≡ Some class) → IsFlooding p class classes seen waiting →
    IsFlooding p class classes (set seen l true) waiting
see_step p class classes seen waiting l within all flooding = record {
  size = flooding.size;
  lines = length-set seen l true ∙ flooding.lines;
  linked = flooding.linked;
  same = (λ m i j told one two. elim (cases_eq m l) as (λ _. (is_some (class_at classes i) ≡ true) × (class_at classes i ≡ class_at classes j)) [
    | inl same ↦
        let first = all i (subst (λ n. effect p i n ≢ pos 0) same one) in
        let second = all j (subst (λ n. effect p j n ≢ pos 0) same two) in
        (ap is_some first, first ∙ sym second)
    | inr off ↦ flooding.same m i j (sym (get_or-set_other seen l m true false off) ∙ told) one two
  ]);
  done = (λ j c m is changed. elim (cases_eq m l) as (λ _. (was_seen (set seen l true) m ≡ true) ⊎ Contains waiting j) [
    | inl same ↦ inl (ap (was_seen (set seen l true)) same ∙ get_or-set_same seen l true false (omega (arith, within, flooding.lines)))
    | inr off ↦ elim (flooding.done j c m is changed) as (λ _. (was_seen (set seen l true) m ≡ true) ⊎ Contains waiting j) [
      | inl told ↦ inl (get_or-set_other seen l m true false off ∙ told)
      | inr waits ↦ inr waits
    ]
  ]);
  waits = flooding.waits;
}

contains_cons : (x : ℕ) (xs : List ℕ) (j : ℕ) → Contains (x ∷ xs) j → (x ≡ j) ⊎ Contains xs j
contains_cons x xs j there = Contains-append_cases_cons x xs j (Contains-append_cases (x ∷ []) xs j there)
  where
    Contains-append_cases_cons : (x : ℕ) (xs : List ℕ) (j : ℕ) → (Contains (x ∷ []) j ⊎ Contains xs j) → (x ≡ j) ⊎ Contains xs j
    Contains-append_cases_cons x xs j (inr rest) = inr rest
    Contains-append_cases_cons x xs j (inl first) = elim (Contains-push_cases [] x j first) as (λ _. (x ≡ j) ⊎ Contains xs j) [
      | inl none ↦ absurd (omega (arith, none.1))
      | inr same ↦ inl same
    ]

pub contains_first : (x : ℕ) (xs : List ℕ) → Contains (x ∷ xs) x
contains_first x xs = (0, omega arith, refl)

pub contains_rest : (x : ℕ) (xs : List ℕ) (j : ℕ) → Contains xs j → Contains (x ∷ xs) j
contains_rest x xs j there = Contains-append_right (x ∷ []) xs j there

-- a place whose lines were all seen waits no more
pub leave_step : (p : Clearing) (class : ℕ) (classes : List (Option ℕ)) (seen : List Bool) (x : ℕ) (waiting : List ℕ) →
    ((l : ℕ) → effect p x l ≢ pos 0 → was_seen seen l ≡ true) → IsFlooding p class classes seen (x ∷ waiting) → IsFlooding p class classes seen waiting
leave_step p class classes seen x waiting all flooding = record {
  size = flooding.size;
  lines = flooding.lines;
  linked = flooding.linked;
  same = flooding.same;
  done = (λ j c l is changed. elim (flooding.done j c l is changed) as (λ _. (was_seen seen l ≡ true) ⊎ Contains waiting j) [
    | inl told ↦ inl told
    | inr waits ↦ elim (contains_cons x waiting j waits) as (λ _. (was_seen seen l ≡ true) ⊎ Contains waiting j) [
      | inl same ↦ inl (all l (subst (λ n. effect p n l ≢ pos 0) (sym same) changed))
      | inr still ↦ inr still
    ]
  ]);
  waits = (λ j there. flooding.waits j (contains_rest x waiting j there));
}

-- the last of those that wait is taken first
pub take_last : (p : Clearing) (class : ℕ) (classes : List (Option ℕ)) (seen : List Bool) (x : ℕ) (waiting : List ℕ) →
    IsFlooding p class classes seen (waiting ++ x ∷ []) → IsFlooding p class classes seen (x ∷ waiting)
take_last p class classes seen x waiting flooding = record {
  size = flooding.size;
  lines = flooding.lines;
  linked = flooding.linked;
  same = flooding.same;
  done = (λ j c l is changed. elim (flooding.done j c l is changed) as (λ _. (was_seen seen l ≡ true) ⊎ Contains (x ∷ waiting) j) [
    | inl told ↦ inl told
    | inr waits ↦ elim (Contains-push_cases waiting x j waits) as (λ _. (was_seen seen l ≡ true) ⊎ Contains (x ∷ waiting) j) [
      | inl before ↦ inr (contains_rest x waiting j before)
      | inr last ↦ inr (subst (Contains (x ∷ waiting)) last (contains_first x waiting))
    ]
  ]);
  waits = (λ j there. elim (contains_cons x waiting j there) as (λ _. class_at classes j ≡ Some class) [
    | inl first ↦ flooding.waits j (subst (Contains (waiting ++ x ∷ [])) first (Contains-push waiting x))
    | inr rest ↦ flooding.waits j (Contains-append_left waiting (x ∷ []) j rest)
  ]);
}

-- where none waits, the flood may be of any class
pub any_class : (p : Clearing) (class other : ℕ) (classes : List (Option ℕ)) (seen : List Bool) → IsFlooding p class classes seen [] → IsFlooding p other classes seen []
any_class p class other classes seen flooding = record {
  size = flooding.size;
  lines = flooding.lines;
  linked = flooding.linked;
  same = flooding.same;
  done = flooding.done;
  waits = (λ j there. absurd (omega (arith, there.1)));
}

-- classes that grow
pub grows_none : (class : ℕ) (classes : List (Option ℕ)) → Grows class classes classes
grows_none class classes = record { size = refl; each = λ j. inl refl }

pub grows_one : (class : ℕ) (classes : List (Option ℕ)) (k : ℕ) → k < length classes → class_at classes k ≡ None → Grows class classes (set classes k (Some class))
grows_one class classes k within none = record {
  size = length-set classes k (Some class);
  each = (λ j. elim (cases_eq j k) as (λ _. (class_at (set classes k (Some class)) j ≡ class_at classes j) ⊎ ((class_at classes j ≡ None) × (class_at (set classes k (Some class)) j ≡ Some class))) [
    | inl same ↦ inr (ap (class_at classes) same ∙ none, here classes k j (Some class) within same)
    | inr off ↦ inl (there classes k j (Some class) off)
  ]);
}

pub grows_both : (class : ℕ) (a b c : List (Option ℕ)) → Grows class a b → Grows class b c → Grows class a c
grows_both class a b c first second = record {
  size = second.size ∙ first.size;
  each = (λ j. elim (second.each j) as (λ _. (class_at c j ≡ class_at a j) ⊎ ((class_at a j ≡ None) × (class_at c j ≡ Some class))) [
    | inl same ↦ elim (first.each j) as (λ _. (class_at c j ≡ class_at a j) ⊎ ((class_at a j ≡ None) × (class_at c j ≡ Some class))) [
      | inl was ↦ inl (same ∙ was)
      | inr got ↦ inr (got.0, same ∙ got.1)
    ]
    | inr got ↦ elim (first.each j) as (λ _. (class_at c j ≡ class_at a j) ⊎ ((class_at a j ≡ None) × (class_at c j ≡ Some class))) [
      | inl was ↦ inr (sym was ∙ got.0, got.1)
      | inr had ↦ absurd (none_some class (sym got.0 ∙ had.1))
    ]
  ]);
}

-- what has a class keeps it
pub grows_some : (class : ℕ) (a b : List (Option ℕ)) (j c : ℕ) → Grows class a b → class_at a j ≡ Some c → class_at b j ≡ Some c
grows_some class a b j c grows is = elim (grows.each j) as (λ _. class_at b j ≡ Some c) [
  | inl same ↦ same ∙ is
  | inr got ↦ absurd (none_some c (sym got.0 ∙ is))
]

pub grows_told : (class : ℕ) (a b : List (Option ℕ)) (j : ℕ) → Grows class a b → is_some (class_at a j) ≡ true → is_some (class_at b j) ≡ true
grows_told class a b j grows told = elim (grows.each j) as (λ _. is_some (class_at b j) ≡ true) [
  | inl same ↦ ap is_some same ∙ told
  | inr got ↦ ap is_some got.1
]

-- one open place less
abbrev one_if : Option ℕ → ℕ
one_if o = cond (not (is_some o)) 1 0

pub open_less : (classes : List (Option ℕ)) (k class : ℕ) → k < length classes → class_at classes k ≡ None → open_count (set classes k (Some class)) + 1 ≡ open_count classes
open_less classes k class within none =
    let put = sum_by-set one_if classes k (Some class) None within in
    let was : one_if (class_at classes k) ≡ one_if None = ap one_if none in
    omega (arith, put, was)

-- one touch more
pub spreads_none : (class : ℕ) (classes : List (Option ℕ)) (seen : List Bool) (waiting : List ℕ) (ts : List Touch) → Spreads class classes classes seen waiting waiting ts
spreads_none class classes seen waiting ts = record { spreads = λ p place l flooding changed told all. flooding }

pub spreads_more : (class : ℕ) (c0 c1 c2 : List (Option ℕ)) (seen : List Bool) (w0 w1 w2 : List ℕ) (ts : List Touch) (i : ℕ) (d : Touch) → i < length ts →
    Enters class (get_or ts i d).place c1 c2 w1 w2 → Spreads class c0 c1 seen w0 w1 ts → Spreads class c0 c2 seen w0 w2 ts
spreads_more class c0 c1 c2 seen w0 w1 w2 ts i d within (inr had) before =
    subst (λ (cs : List (Option ℕ)). Spreads class c0 cs seen w0 w2 ts) (sym had.classes)
    (subst (λ (ws : List ℕ). Spreads class c0 c1 seen w0 ws ts) (sym had.waits) before)
spreads_more class c0 c1 c2 seen w0 w1 w2 ts i d within (inl got) before =
    let k : ℕ = (get_or ts i d).place in
    subst (λ (cs : List (Option ℕ)). Spreads class c0 cs seen w0 w2 ts) (sym got.classes)
    (subst (λ (ws : List ℕ). Spreads class c0 (set c1 k (Some class)) seen w0 ws ts) (sym got.waits) (record {
      spreads = (λ p place l flooding changed told all.
          let now = before.spreads p place l flooding changed told all in
          let touch = all i d within in
          enter_step p class c1 seen (place ∷ w1) k touch.place got.open_before
          (λ j is. linked_both p j place k (now.linked j place class is (now.waits place (contains_first place w1)))
          (linked_share p place k (record { line = l; first = changed; second = λ none_there. touch.changes (touch.amount ∙ none_there) }))) now);
    }))

-- what entering a place does
pub enters_grows : (class place : ℕ) (c0 c1 : List (Option ℕ)) (w0 w1 : List ℕ) → place < length c0 → Enters class place c0 c1 w0 w1 → Grows class c0 c1
enters_grows class place c0 c1 w0 w1 within (inr had) = subst (Grows class c0) (sym had.classes) (grows_none class c0)
enters_grows class place c0 c1 w0 w1 within (inl got) = subst (Grows class c0) (sym got.classes) (grows_one class c0 place within got.open_before)

pub enters_some : (class place : ℕ) (c0 c1 : List (Option ℕ)) (w0 w1 : List ℕ) → place < length c0 → Enters class place c0 c1 w0 w1 → is_some (class_at c1 place) ≡ true
enters_some class place c0 c1 w0 w1 within (inr had) = ap (λ (cs : List (Option ℕ)). is_some (class_at cs place)) had.classes ∙ had.some
enters_some class place c0 c1 w0 w1 within (inl got) =
    ap (λ (cs : List (Option ℕ)). is_some (class_at cs place)) got.classes ∙ ap is_some (here c0 place place (Some class) within refl)

pub enters_counted : (class place : ℕ) (c0 c1 : List (Option ℕ)) (w0 w1 : List ℕ) → place < length c0 → Enters class place c0 c1 w0 w1 →
    open_count c1 + length w1 ≡ open_count c0 + length w0
enters_counted class place c0 c1 w0 w1 within (inr had) = ap (λ (cs : List (Option ℕ)). open_count cs + length w1) had.classes ∙ ap (λ (ws : List ℕ). open_count c0 + length ws) had.waits
enters_counted class place c0 c1 w0 w1 within (inl got) =
    let less = open_less c0 place class within got.open_before in
    let classes : open_count c1 ≡ open_count (set c0 place (Some class)) = ap open_count got.classes in
    let waits : length w1 ≡ length (w0 ++ place ∷ []) = ap length got.waits in
    omega (arith, less, classes, waits, length-append w0 (place ∷ []))

-- after a spread each place of the line is of the class
pub spread_all : (p : Clearing) (class : ℕ) (classes : List (Option ℕ)) (seen : List Bool) (waiting : List ℕ) (l k : ℕ) → IsFlooding p class classes seen waiting →
    was_seen seen l ≡ false → effect p k l ≢ pos 0 → is_some (class_at classes k) ≡ true → class_at classes k ≡ Some class
spread_all p class classes seen waiting l k flooding told changed some =
    let has = some_of (class_at classes k) some in
    elim (flooding.done k has.0 l has.1 changed) as (λ _. class_at classes k ≡ Some class) [
      | inl seen_it ↦ absurd (true_false (sym seen_it ∙ told))
      | inr waits ↦ flooding.waits k waits
    ]
  where
    some_of : (o : Option ℕ) → is_some o ≡ true → (c : ℕ) × (o ≡ Some c)
    some_of None told = absurd (true_false (sym told))
    some_of (Some c) told = (c, refl)

pub seen_again : (seen : List Bool) (l : ℕ) → was_seen seen l ≡ true → set seen l true ≡ seen
seen_again seen l told = ap (set seen l) (sym told) ∙ set-get_or seen l false

-- a line that was seen, and one that wasn't
pub sees_none : (class : ℕ) (classes : List (Option ℕ)) (seen : List Bool) (waiting : List ℕ) (l : ℕ) (ts : List Touch) → was_seen seen l ≡ true →
    Sees class classes classes seen (set seen l true) waiting waiting l ts
sees_none class classes seen waiting l ts told = record {
  sees = (λ p place flooding changed within is. subst (λ (s : List Bool). IsFlooding p class classes s (place ∷ waiting)) (sym (seen_again seen l told)) flooding);
}

pub sees_spread : (class : ℕ) (c0 c1 : List (Option ℕ)) (seen : List Bool) (w0 w1 : List ℕ) (l : ℕ) (ts : List Touch) → was_seen seen l ≡ false →
    Spreads class c0 c1 seen w0 w1 ts → All (λ (t : Touch). is_some (class_at c1 t.place) ≡ true) ts → Sees class c0 c1 seen (set seen l true) w0 w1 l ts
sees_spread class c0 c1 seen w0 w1 l ts told spreads each = record {
  sees = (λ p place flooding changed within is.
      let now = spreads.spreads p place l flooding changed told (subst (All (IsTouch p l)) (sym is) (are_touches p l)) in
      see_step p class c1 seen (place ∷ w1) l within (λ k there_too. spread_all p class c1 seen (place ∷ w1) l k now told there_too (some_class p k is there_too)) now);
}
  where
    some_class : (p : Clearing) (k : ℕ) → ts ≡ touches p l → effect p k l ≢ pos 0 → is_some (class_at c1 k) ≡ true
    some_class p k is changed =
        let has = has_touch p l k changed (change_within p k l changed) in
        let d : Touch = record { place = 0; amount = pos 0 } in
        let all : All (λ (t : Touch). is_some (class_at c1 t.place) ≡ true) (touches p l) = subst (All (λ (t : Touch). is_some (class_at c1 t.place) ≡ true)) is each in
        subst (λ n. is_some (class_at c1 n) ≡ true) (has.place d) (all has.number d has.within)

-- a first place enters where no place has the class yet
pub start_step : (p : Clearing) (class start : ℕ) (c0 c1 : List (Option ℕ)) (seen : List Bool) (w1 : List ℕ) → start < length p.items → class_at c0 start ≡ None →
    ((j : ℕ) → class_at c0 j ≢ Some class) → IsFlooding p 0 c0 seen [] → Enters class start c0 c1 [] w1 → IsFlooding p class c1 seen w1
start_step p class start c0 c1 seen w1 within none fresh flooding (inr had) = absurd (true_false (sym had.some ∙ ap is_some none))
start_step p class start c0 c1 seen w1 within none fresh flooding (inl got) =
    subst (λ (cs : List (Option ℕ)). IsFlooding p class cs seen w1) (sym got.classes)
    (subst (λ (ws : List ℕ). IsFlooding p class (set c0 start (Some class)) seen ws) (sym got.waits)
    (enter_step p class c0 seen [] start within none (λ j is. absurd (fresh j is)) (any_class p 0 class c0 seen flooding)))

pub start_class : (class start : ℕ) (c0 c1 : List (Option ℕ)) (w0 w1 : List ℕ) → start < length c0 → class_at c0 start ≡ None → Enters class start c0 c1 w0 w1 → class_at c1 start ≡ Some class
start_class class start c0 c1 w0 w1 within none (inr had) = absurd (true_false (sym had.some ∙ ap is_some none))
start_class class start c0 c1 w0 w1 within none (inl got) = ap (λ (cs : List (Option ℕ)). class_at cs start) got.classes ∙ here c0 start start (Some class) within refl

-- what is read as none has no class
pub read_none : (classes : List (Option ℕ)) (k : ℕ) (o : Option ℕ) → k < length classes → o ≡ get_or classes k o → is_some o ≡ false → class_at classes k ≡ None
read_none classes k o within read told = sym (get_or_read classes k o within read None) ∙ none_of o told
  where
    none_of : (o : Option ℕ) → is_some o ≡ false → o ≡ None
    none_of None told = refl
    none_of (Some c) told = absurd (true_false told)

pub read_some : (classes : List (Option ℕ)) (k : ℕ) (o : Option ℕ) → k < length classes → o ≡ get_or classes k o → is_some o ≡ true → is_some (class_at classes k) ≡ true
read_some classes k o within read told = ap is_some (sym (get_or_read classes k o within read None)) ∙ told

-- the place that waits has a class, so it is in range
pub waits_within : (p : Clearing) (class : ℕ) (classes : List (Option ℕ)) (seen : List Bool) (waiting : List ℕ) (x : ℕ) → IsFlooding p class classes seen waiting → Contains waiting x → x < length p.items
waits_within p class classes seen waiting x flooding there = elim (cases_lt x (length p.items)) as (λ _. x < length p.items) [
  | inl within ↦ within
  | inr past ↦ absurd (none_some class (sym (get_or_past classes x None (omega (arith, past, flooding.size))) ∙ flooding.waits x there))
]

-- lines that were looked at stay so
pub looked_more : (seen : List Bool) (es : List Effect) (i : ℕ) (d : Effect) → i < length es → (get_or es i d).line < length seen →
    All (λ (e : Effect). was_seen seen e.line ≡ true) (take i es) → All (λ (e : Effect). was_seen (set seen (get_or es i d).line true) e.line ≡ true) (take (i + 1) es)
looked_more seen es i d within inside before =
    All-more (λ (e : Effect). was_seen (set seen (get_or es i d).line true) e.line ≡ true) es i d within
    (λ k e below. stays (get_or (take i es) k e).line (before k e below))
    (get_or-set_same seen (get_or es i d).line true false inside)
  where
    stays : (m : ℕ) → was_seen seen m ≡ true → was_seen (set seen (get_or es i d).line true) m ≡ true
    stays m told = elim (cases_eq m (get_or es i d).line) as (λ _. was_seen (set seen (get_or es i d).line true) m ≡ true) [
      | inl same ↦ ap (was_seen (set seen (get_or es i d).line true)) same ∙ get_or-set_same seen (get_or es i d).line true false inside
      | inr off ↦ get_or-set_other seen (get_or es i d).line m true false off ∙ told
    ]

-- an effect changes its line
pub effect_changes : (p : Clearing) (j i : ℕ) (d : Effect) → IsProblem p → j < length p.items → i < length (item_at p j).effects →
    effect p j (get_or (item_at p j).effects i d).line ≢ pos 0
effect_changes p j i d limits within below none =
    let are = (item_limits p j limits within).effects in
    are.not_zero i d below (sym (one_on_line (item_at p j).effects i d are.rising below) ∙ none)

-- all lines of a place were looked at
pub all_looked : (p : Clearing) (j : ℕ) (seen : List Bool) (es : List Effect) → es ≡ (item_at p j).effects → All (λ (e : Effect). was_seen seen e.line ≡ true) es →
    (l : ℕ) → effect p j l ≢ pos 0 → was_seen seen l ≡ true
all_looked p j seen es same all l changed =
    let d : Effect = record { line = 0; amount = pos 0 } in
    elim (present l d es) as (λ _. was_seen seen l ≡ true) [
      | inl none ↦ absurd (changed (sym (ap (λ (xs : List Effect). sum_over (on_line l) xs) same) ∙ none))
      | inr found ↦ subst (λ m. was_seen seen m ≡ true) found.2 (all found.0 d found.1)
    ]
