use Rattle.std.proofs.Common.{◌≡◌, ◌≢◌, ◌∙◌, ◌⊎◌, inl, inr, ℕ, zero, suc, ◌+◌, ◌-◌, ◌*◌, ◌^◌, ◌<◌, ◌≤◌, Bool, true, false, cond, eqb, ltb, Option, Some, None, List, [], ◌∷◌, ◌++◌, length, get_or, refl, sym, ap, subst, arith}
use Rattle.std.proofs.lemmas.Bool.Decides.{nat_tests}
use Rattle.std.proofs.lemmas.List.{nil_from_length, length-map, get_or-map}
use Rattle.std.proofs.lemmas.List.Sums.{fails_before_first}
use Rattle.std.proofs.lemmas.List.Folds.{list_any_none}
use Rattle.std.proofs.lemmas.List.{map-append}
use Rattle.std.proofs.lemmas.List.Quantifiers.{position-Some}
use Rattle.std.proofs.lemmas.Map.Lookups.{exact_bytes}
use Rattle.std.specs.List.{All, position, position_or_len}
use Rattle.std.specs.Prelude.{nat_lt, nat_le, nat_eq, ◌&&◌, ◌||◌, is_none}
use Rattle.std.specs.Ordering.{nat_cmp}
use Rattle.std.specs.Cmp.Lexicographic.{slice_cmp, pointwise}
use Rattle.std.specs.declared.cmp.Ordering.{Ordering}
use Rattle.std.specs.declared.cmp.Ordering.TheVariants.{Less, Equal, Greater}
use Rattle.dali_base.proofs.Spelled.{and_parts, both, same_then, same_itself}
use Rattle.dali_base.specs.NameList.{NameList, knows, place_of, with_name}
use Rattle.dali_problem.specs.declared.row.LineRow.{LineRow}
use Rattle.dali_problem.specs.declared.row.Effect.{Effect}
use Rattle.dali_problem.specs.Clearing.{Item, Clearing, line_at}
use Rattle.dali_problem.specs.Limits.{IsBefore}
use Rattle.dali_cert_print.specs.Block.{is_small}
use Rattle.dali_cert_text.specs.Stating.{before_by, is_before, may_line, may_item, values_of, ids_of, with_item}

-- What the tests on a line and on an item tell.

before_cases : (o s : Ordering) → before_by o s ≡ true → (o ≡ Less) ⊎ ((o ≡ Equal) × (s ≡ Less))
before_cases Less s told = inl refl
before_cases Equal Less told = inr (refl, refl)
before_cases Equal Equal told = absurd cc
before_cases Equal Greater told = absurd cc
before_cases Greater s told = absurd cc

before_is : (a b : LineRow) → is_before a b ≡ true → IsBefore a b
unfolding is_before
before_is a b told = elim (before_cases (slice_cmp nat_cmp a.account b.account) (slice_cmp nat_cmp a.asset b.asset) told) [
  | inl h ↦ inl h
  | inr h ↦ inr (exact_bytes a.account b.account h.0, h.1)
]

number_equal : (n : ℕ) → nat_cmp n n ≡ Equal
number_equal n = grind (arith, nat_tests)

equal_itself : (xs : List ℕ) → slice_cmp nat_cmp xs xs ≡ Equal
equal_itself [] = refl
equal_itself (x ∷ xs) = rw (number_equal x) (equal_itself xs)

before_again : (a b : LineRow) → IsBefore a b → is_before a b ≡ true
unfolding is_before
before_again a b h = elim h [
  | inl less ↦ ap (λ (o : Ordering). before_by o (slice_cmp nat_cmp a.asset b.asset)) less
  | inr same ↦
      ap (λ (o : Ordering). before_by o (slice_cmp nat_cmp a.asset b.asset)) (ap (λ (xs : List ℕ). slice_cmp nat_cmp a.account xs) (sym same.0) ∙ equal_itself a.account)
      ∙ ap (λ (o : Ordering). before_by Equal o) same.1
]

or_cases : (a b : Bool) → (a || b) ≡ true → (a ≡ true) ⊎ (b ≡ true)
or_cases true b told = inl refl
or_cases false b told = inr told

or_left : (a b : Bool) → a ≡ true → (a || b) ≡ true
or_left a b told = ap (λ (t : Bool). t || b) told

or_right : (a b : Bool) → b ≡ true → (a || b) ≡ true
or_right true b told = refl
or_right false b told = told

pub record MayLine (p : Clearing) (line : LineRow) : Type 0 where
  pub no_items : p.items ≡ []
  pub few : length p.lines < 4096
  pub after : (k : ℕ) → k + 1 ≡ length p.lines → IsBefore (line_at p k) line

pub line_may : (p : Clearing) (line : LineRow) → may_line p line ≡ true → MayLine p line
unfolding may_line
line_may p line told =
    let one = and_parts (eqb (length p.items) 0 && nat_lt (length p.lines) 4096) (eqb (length p.lines) 0 || is_before (line_at p (length p.lines - 1)) line) told in
    let two = and_parts (eqb (length p.items) 0) (nat_lt (length p.lines) 4096) one.0 in
    let none : length p.items ≡ 0 = grind (arith, nat_tests, two.0) in
    record {
      no_items = nil_from_length p.items none;
      few = grind (arith, nat_tests, two.1);
      after = λ k last. elim (or_cases (eqb (length p.lines) 0) (is_before (line_at p (length p.lines - 1)) line) one.1) [
        | inl h ↦ let zero_is : length p.lines ≡ 0 = grind (arith, nat_tests, h) in absurd (omega (arith, zero_is, last))
        | inr h ↦ let at : length p.lines - 1 ≡ k = omega (arith, last) in
            subst (λ (i : ℕ). IsBefore (line_at p i) line) at (before_is (line_at p (length p.lines - 1)) line h)
      ];
    }

pub may_line_again : (p : Clearing) (line : LineRow) → MayLine p line → may_line p line ≡ true
unfolding may_line
may_line_again p line may =
    let none : eqb (length p.items) 0 ≡ true = ap (λ (xs : List Item). eqb (length xs) 0) may.no_items in
    let few : nat_lt (length p.lines) 4096 ≡ true = grind (arith, nat_tests, may.few) in
    both (eqb (length p.items) 0 && nat_lt (length p.lines) 4096) (eqb (length p.lines) 0 || is_before (line_at p (length p.lines - 1)) line)
    (both (eqb (length p.items) 0) (nat_lt (length p.lines) 4096) none few) (last (length p.lines) refl)
  where
    last : (n : ℕ) → length p.lines ≡ n → (eqb (length p.lines) 0 || is_before (line_at p (length p.lines - 1)) line) ≡ true
    last zero e = or_left (eqb (length p.lines) 0) (is_before (line_at p (length p.lines - 1)) line) (ap (λ (i : ℕ). eqb i 0) e)
    last (suc n) e = or_right (eqb (length p.lines) 0) (is_before (line_at p (length p.lines - 1)) line)
        (before_again (line_at p (length p.lines - 1)) line (may.after (length p.lines - 1) (omega (arith, e))))

beyond : (k n : ℕ) → cond (ltb k n) (Some k) None ≡ None → n ≤ k
beyond k n missing = grind (arith, nat_tests, missing)

none_is : (o : Option ℕ) → is_none o ≡ true → o ≡ None
none_is None told = refl
none_is (Some x) told = absurd cc

false_or_true : (b : Bool) → (b ≡ false) ⊎ (b ≡ true)
false_or_true false = inl refl
false_or_true true = inr refl

-- an id that is none of the ids
pub record MayItem (wide : Bool) (p : Clearing) (id : List ℕ) (value : ℕ) (effects : List Effect) : Type 0 where
  pub few : length p.items < 1024
  pub new_id : All (λ item. item.id ≢ id) p.items
  pub total : values_of p + value ≤ 16384 * 10 ^ 15
  pub small : wide ≡ false → is_small value effects ≡ true

new_id_is : (p : Clearing) (id : List ℕ) → is_none (place_of (ids_of p) id) ≡ true → All (λ item. item.id ≢ id) p.items
new_id_is p id told =
    let missing : position (pointwise nat_eq id) (ids_of p) ≡ None = none_is (place_of (ids_of p) id) told in
    let past : length (ids_of p) ≤ position_or_len (pointwise nat_eq id) (ids_of p) = beyond (position_or_len (pointwise nat_eq id) (ids_of p)) (length (ids_of p)) missing in
    λ k d below e.
    let size : length (ids_of p) ≡ length p.items = length-map p.items (λ (item : Item). item.id) in
    let fails = fails_before_first (pointwise nat_eq id) (ids_of p) k [] (omega (arith, past, size, below)) in
    let same : get_or (ids_of p) k [] ≡ id = get_or-map (λ (item : Item). item.id) p.items k d [] below ∙ e in
    let yes' : pointwise nat_eq id (get_or (ids_of p) k []) ≡ true = ap (pointwise nat_eq id) same ∙ same_itself id in
    cc (fails, yes')

found_none : (o : Option ℕ) → ((i : ℕ) → o ≡ Some i → ⊥) → is_none o ≡ true
found_none None not = refl
found_none (Some i) not = absurd (not i refl)

new_id_again : (p : Clearing) (id : List ℕ) → All (λ item. item.id ≢ id) p.items → is_none (place_of (ids_of p) id) ≡ true
new_id_again p id new = found_none (place_of (ids_of p) id) (λ i found.
    let at = position-Some (pointwise nat_eq id) (ids_of p) i [] found in
    let size : length (ids_of p) ≡ length p.items = length-map p.items (λ (item : Item). item.id) in
    let below : i < length p.items = omega (arith, size, at.0) in
    let none : Item = record { id = []; value = 0; effects = [] } in
    let same : id ≡ get_or (ids_of p) i [] = same_then id (get_or (ids_of p) i []) at.1 in
    new i none below (sym (get_or-map (λ (item : Item). item.id) p.items i none [] below) ∙ sym same))

pub item_may : (wide : Bool) (p : Clearing) (id : List ℕ) (value : ℕ) (effects : List Effect) → may_item wide p id value effects ≡ true → MayItem wide p id value effects
unfolding may_item
item_may wide p id value effects told =
    let one = and_parts (nat_lt (length p.items) 1024 && is_none (place_of (ids_of p) id) && nat_le (values_of p + value) (16384 * 10 ^ 15)) (wide || is_small value effects) told in
    let two = and_parts (nat_lt (length p.items) 1024 && is_none (place_of (ids_of p) id)) (nat_le (values_of p + value) (16384 * 10 ^ 15)) one.0 in
    let three = and_parts (nat_lt (length p.items) 1024) (is_none (place_of (ids_of p) id)) two.0 in
    record {
      few = grind (arith, nat_tests, three.0);
      new_id = new_id_is p id three.1;
      total = grind (arith, nat_tests, two.1);
      small = λ narrow. elim (or_cases wide (is_small value effects) one.1) [ inl h ↦ absurd (cc (narrow, h)) | inr h ↦ h ];
    }

pub may_item_again : (wide : Bool) (p : Clearing) (id : List ℕ) (value : ℕ) (effects : List Effect) → MayItem wide p id value effects → may_item wide p id value effects ≡ true
unfolding may_item
may_item_again wide p id value effects may =
    let few : nat_lt (length p.items) 1024 ≡ true = grind (arith, nat_tests, may.few) in
    let total : nat_le (values_of p + value) (16384 * 10 ^ 15) ≡ true = grind (arith, nat_tests, may.total) in
    both (nat_lt (length p.items) 1024 && is_none (place_of (ids_of p) id) && nat_le (values_of p + value) (16384 * 10 ^ 15)) (wide || is_small value effects)
    (both (nat_lt (length p.items) 1024 && is_none (place_of (ids_of p) id)) (nat_le (values_of p + value) (16384 * 10 ^ 15))
    (both (nat_lt (length p.items) 1024) (is_none (place_of (ids_of p) id)) few (new_id_again p id may.new_id)) total)
    (elim (false_or_true wide) [ inl h ↦ or_right wide (is_small value effects) (may.small h) | inr h ↦ or_left wide (is_small value effects) h ])

false_if_not : (b : Bool) → (b ≡ true → ⊥) → b ≡ false
false_if_not false not = refl
false_if_not true not = absurd (not refl)

-- a new id goes behind the ids
pub ids_more : (p : Clearing) (id : List ℕ) (value : ℕ) (effects : List Effect) (n : NameList) → n.names ≡ ids_of p → All (λ item. item.id ≢ id) p.items →
    (with_name n id).names ≡ ids_of (with_item p id value effects)
ids_more p id value effects n names new =
    let none : knows (ids_of p) id ≡ false =
    list_any_none (pointwise nat_eq id) (ids_of p) (λ k d below. false_if_not (pointwise nat_eq id (get_or (ids_of p) k d)) (λ told.
    let size : length (ids_of p) ≡ length p.items = length-map p.items (λ (item : Item). item.id) in
    let within : k < length p.items = omega (arith, size, below) in
    let item : Item = record { id = []; value = 0; effects = [] } in
    new k item within (sym (get_or-map (λ (item : Item). item.id) p.items k item d within) ∙ sym (same_then id (get_or (ids_of p) k d) told)))) in
    ap (λ (t : Bool). (cond t n (record { names = n.names ++ id ∷ []; readied = None })).names) (ap (λ (ns : List (List ℕ)). knows ns id) names ∙ none)
    ∙ ap (λ (ns : List (List ℕ)). ns ++ id ∷ []) names ∙ sym (map-append (λ (item : Item). item.id) p.items (record { id = id; value = value; effects = effects } ∷ []))
