use Rattle.std.proofs.Common.{◌≡◌, ◌≢◌, ◌∙◌, inl, inr, ℕ, zero, suc, ◌+◌, ◌-◌, ◌*◌, ◌^◌, ◌<◌, ◌≤◌, Bool, true, false, cond, eqb, ltb, Some, None, List, [], ◌∷◌, ◌++◌, length, get_or, take, drop, refl, sym, ap, subst, ℤ, pos, negsuc, neg_ℤ, arith, append_assoc, length-append}
use Rattle.std.proofs.Math.Seq.{take-append_seam, get_or-append_seam}
use Rattle.std.proofs.lemmas.List.{get_or_append_left, length-append, drop_at}
use Rattle.std.proofs.lemmas.List.Sums.{position_or_len_is, split_at_first, passes_at_first}
use Rattle.std.proofs.lemmas.Bool.Decides.{nat_tests}
use Rattle.std.proofs.lemmas.Bool.{ltb-true}
use Rattle.std.proofs.lemmas.Int.{ints}
use Rattle.std.proofs.lemmas.Fmt.{digits_decimal, decimal_nonempty}
use Rattle.std.specs.Fmt.{signed_decimal}
use Rattle.std.specs.List.{list_all, position, position_or_len}
use Rattle.std.specs.Str.{all_ascii_digits}
use Rattle.std.specs.Prelude.{decimal, IsTrue, ◌&&◌, nat_le, nat_lt, option_and_then}
use Rattle.dali_base.specs.Spelling.{is_name}
use Rattle.dali_base.specs.Readers.{spelled_name, spelled_number}
use Rattle.dali_base.proofs.Spelled.{and_parts, both, chosen, own, number_spelled, number_found, name_spelled, name_found}
use Rattle.dali_problem.specs.declared.row.Effect.{Effect}
use Rattle.dali_problem.specs.Limits.{Within}
use Rattle.dali_cert_print.specs.Rows.{effect_field, multiplier_field}
use Rattle.dali_cert_text.specs.Fields.{alone, number_of, name_of, number_below, place_of, number_within, cut_at_colon, amount_of, effect_of, multiplier_of}
use Rattle.dali_cert_text.proofs.Binds.{bind_some, either, some_is, if_true}

-- A field that is read is the field of its value, and the field of a value is read.

pub alone_is : {A : Type 0} (fields : List (List ℕ)) (x y : A) → alone fields x ≡ Some y → (fields ≡ []) × (x ≡ y)
alone_is [] x y told = (refl, some_is x y told)
alone_is (f ∷ fs) x y told = absurd cc

-- ---- numbers and names

pub number_field : (max : ℕ) (fields : List (List ℕ)) (x : ℕ × List (List ℕ)) → number_of max fields ≡ Some x → (x.0 ≤ max) × (fields ≡ decimal x.0 ∷ x.1)
unfolding number_of
number_field max [] x told = absurd cc
number_field max (f ∷ fs) x told =
    let b = bind_some (λ (n : ℕ). Some (n, fs)) (spelled_number max f) x told in
    let is = number_spelled max f b.0 b.1 in
    subst (λ (y : ℕ × List (List ℕ)). (y.0 ≤ max) × (f ∷ fs ≡ decimal y.0 ∷ y.1)) (some_is (b.0, fs) x b.2) (is.within, ap (λ d. d ∷ fs) is.digits)

pub number_again : (max n : ℕ) (rest : List (List ℕ)) → max < 2 ^ 64 → n ≤ max → number_of max (decimal n ∷ rest) ≡ Some (n, rest)
unfolding number_of
number_again max n rest small within =
    ap (option_and_then (λ m. Some (m, rest))) (number_found max (decimal n) n small (record { within = within; digits = refl }))

pub name_field : (fields : List (List ℕ)) (x : List ℕ × List (List ℕ)) → name_of fields ≡ Some x → IsTrue (is_name x.0) × (fields ≡ x.0 ∷ x.1)
unfolding name_of
name_field [] x told = absurd cc
name_field (f ∷ fs) x told =
    let b = bind_some (λ (n : List ℕ). Some (n, fs)) (spelled_name f) x told in
    let is = name_spelled f b.0 b.1 in
    subst (λ (y : List ℕ × List (List ℕ)). IsTrue (is_name y.0) × (f ∷ fs ≡ y.0 ∷ y.1)) (some_is (b.0, fs) x b.2)
    (subst (λ (n : List ℕ). IsTrue (is_name n)) (sym is.1) is.0, ap (λ n. n ∷ fs) (sym is.1))

pub name_again : (name : List ℕ) (rest : List (List ℕ)) → IsTrue (is_name name) → name_of (name ∷ rest) ≡ Some (name, rest)
unfolding name_of
name_again name rest is = ap (option_and_then (λ n. Some (n, rest))) (name_found name is)

pub below_is : (end low : ℕ) (bytes : List ℕ) (n : ℕ) → number_below end low bytes ≡ Some n → (low ≤ n) × (n < end) × (bytes ≡ decimal n)
unfolding number_below
below_is end low bytes n told =
    let b = bind_some (λ (m : ℕ). cond (nat_le low m && nat_lt m end) (Some m) None) (spelled_number (2 ^ 32 - 1) bytes) n told in
    let c = chosen (nat_le low b.0 && nat_lt b.0 end) b.0 n b.2 in
    let tests = and_parts (nat_le low b.0) (nat_lt b.0 end) c.0 in
    let least : low ≤ b.0 = grind (arith, nat_tests, tests.0) in
    let most : b.0 < end = grind (arith, nat_tests, tests.1) in
    subst (λ (m : ℕ). (low ≤ m) × (m < end) × (bytes ≡ decimal m)) c.1 (least, most, (number_spelled (2 ^ 32 - 1) bytes b.0 b.1).digits)

pub below_again : (end low n : ℕ) → end ≤ 2 ^ 32 → low ≤ n → n < end → number_below end low (decimal n) ≡ Some n
unfolding number_below
below_again end low n small least most =
    let first : nat_le low n ≡ true = grind (arith, nat_tests, least) in
    let last : nat_lt n end ≡ true = grind (arith, nat_tests, most) in
    ap (option_and_then (λ m. cond (nat_le low m && nat_lt m end) (Some m) None))
    (number_found (2 ^ 32 - 1) (decimal n) n (omega arith) (record { within = omega arith; digits = refl }))
    ∙ if_true (nat_le low n && nat_lt n end) (Some n) None (both (nat_le low n) (nat_lt n end) first last)

pub place_field : (end : ℕ) (fields : List (List ℕ)) (x : ℕ × List (List ℕ)) → place_of end fields ≡ Some x → (x.0 < end) × (fields ≡ decimal x.0 ∷ x.1)
unfolding place_of
place_field end [] x told = absurd cc
place_field end (f ∷ fs) x told =
    let b = bind_some (λ (n : ℕ). Some (n, fs)) (number_below end 0 f) x told in
    let is = below_is end 0 f b.0 b.1 in
    subst (λ (y : ℕ × List (List ℕ)). (y.0 < end) × (f ∷ fs ≡ decimal y.0 ∷ y.1)) (some_is (b.0, fs) x b.2) (is.1, ap (λ d. d ∷ fs) is.2)

pub place_again : (end n : ℕ) (rest : List (List ℕ)) → end ≤ 2 ^ 32 → n < end → place_of end (decimal n ∷ rest) ≡ Some (n, rest)
unfolding place_of
place_again end n rest small most = ap (option_and_then (λ m. Some (m, rest))) (below_again end 0 n small (omega arith) most)

pub within_is : (low high : ℕ) (bytes : List ℕ) (n : ℕ) → number_within low high bytes ≡ Some n → (low ≤ n) × (n ≤ high) × (bytes ≡ decimal n)
unfolding number_within
within_is low high bytes n told =
    let b = bind_some (λ (m : ℕ). cond (nat_le low m) (Some m) None) (spelled_number high bytes) n told in
    let c = chosen (nat_le low b.0) b.0 n b.2 in
    let is = number_spelled high bytes b.0 b.1 in
    let least : low ≤ b.0 = grind (arith, nat_tests, c.0) in
    subst (λ (m : ℕ). (low ≤ m) × (m ≤ high) × (bytes ≡ decimal m)) c.1 (least, is.within, is.digits)

pub within_again : (low high n : ℕ) → high < 2 ^ 64 → low ≤ n → n ≤ high → number_within low high (decimal n) ≡ Some n
unfolding number_within
within_again low high n small least most =
    let first : nat_le low n ≡ true = grind (arith, nat_tests, least) in
    ap (option_and_then (λ m. cond (nat_le low m) (Some m) None)) (number_found high (decimal n) n small (record { within = most; digits = refl }))
    ∙ if_true (nat_le low n) (Some n) None first

-- ---- pairs around a colon

abbrev is_colon : ℕ → Bool
is_colon b = eqb b 58

-- none of a field's bytes is a comma or an LF
abbrev pub is_field : List ℕ → Bool
is_field = list_all (λ b. nat_le 45 b)

abbrev pub are_digits : List ℕ → Bool
are_digits = list_all (λ b. nat_le 48 b && nat_le b 57)

digits_are : (ds : List ℕ) → all_ascii_digits ds ≡ true → are_digits ds ≡ true
digits_are [] told = refl
digits_are (d ∷ ds) told =
    let parts = and_parts _ (all_ascii_digits ds) told in
    let low : nat_le 48 d ≡ true = grind (arith, nat_tests, parts.0) in
    let high : nat_le d 57 ≡ true = grind (arith, nat_tests, parts.0) in
    both (nat_le 48 d && nat_le d 57) (are_digits ds) (both (nat_le 48 d) (nat_le d 57) low high) (digits_are ds parts.1)

pub decimal_digits : (n : ℕ) → n < 2 ^ 64 → are_digits (decimal n) ≡ true
decimal_digits n small = digits_are (decimal n) (digits_decimal own n small)

no_colon : (ds : List ℕ) → are_digits ds ≡ true → (k : ℕ) → k < length ds → is_colon (get_or ds k 0) ≡ false
no_colon [] told k within = absurd (omega (arith, within))
no_colon (d ∷ ds) told zero within = grind (arith, nat_tests, and_parts (nat_le 48 d && nat_le d 57) (are_digits ds) told)
no_colon (d ∷ ds) told (suc k) within = no_colon ds (and_parts (nat_le 48 d && nat_le d 57) (are_digits ds) told).1 k (omega (arith, within))

colon_place : (ds rest : List ℕ) → are_digits ds ≡ true → position is_colon (ds ++ 58 ∷ rest) ≡ Some (length ds)
colon_place ds rest told =
    let long : length (ds ++ 58 ∷ rest) ≡ length ds + suc (length rest) = length-append ds (58 ∷ rest) in
    let at : position_or_len is_colon (ds ++ 58 ∷ rest) ≡ length ds =
    position_or_len_is is_colon (ds ++ 58 ∷ rest) (length ds) 0 (omega (arith, long))
    (λ k below. ap is_colon (get_or_append_left ds (58 ∷ rest) 0 k below) ∙ no_colon ds told k below)
    (λ _. ap is_colon (get_or-append_seam ds 58 rest 0)) in
    let within : ltb (length ds) (length (ds ++ 58 ∷ rest)) ≡ true = grind (arith, nat_tests, long) in
    ap (λ (i : ℕ). cond (ltb i (length (ds ++ 58 ∷ rest))) (Some i) None) at ∙ if_true (ltb (length ds) (length (ds ++ 58 ∷ rest))) (Some (length ds)) None within

pub colon_again : (ds rest : List ℕ) → are_digits ds ≡ true → cut_at_colon (ds ++ 58 ∷ rest) ≡ Some (ds, rest)
unfolding cut_at_colon
colon_again ds rest told =
    let joined : ds ++ 58 ∷ rest ≡ (ds ++ 58 ∷ []) ++ rest = sym (append_assoc ds (58 ∷ []) rest) in
    let size : length (ds ++ 58 ∷ []) ≡ length ds + 1 = length-append ds (58 ∷ []) in
    let behind : drop (length ds + 1) (ds ++ 58 ∷ rest) ≡ rest = ap (drop (length ds + 1)) joined ∙ drop_at (ds ++ 58 ∷ []) rest (length ds + 1) size in
    ap (option_and_then (λ i. Some (take i (ds ++ 58 ∷ rest), drop (i + 1) (ds ++ 58 ∷ rest)))) (colon_place ds rest told)
    ∙ ap (λ (a : List ℕ). Some (a, drop (length ds + 1) (ds ++ 58 ∷ rest))) (take-append_seam ds (58 ∷ rest))
    ∙ ap (λ (b : List ℕ). Some (ds, b)) behind

colon_then : (b : ℕ) → is_colon b ≡ true → b ≡ 58
colon_then b told = grind (arith, nat_tests, told)

pub colon_is : (bytes : List ℕ) (x : List ℕ × List ℕ) → cut_at_colon bytes ≡ Some x → bytes ≡ x.0 ++ 58 ∷ x.1
unfolding cut_at_colon
colon_is bytes x told =
    let b = bind_some (λ (i : ℕ). Some (take i bytes, drop (i + 1) bytes)) (position is_colon bytes) x told in
    let c = chosen (ltb (position_or_len is_colon bytes) (length bytes)) (position_or_len is_colon bytes) b.0 b.1 in
    let within : position_or_len is_colon bytes < length bytes = ltb-true _ _ c.0 in
    let split = split_at_first is_colon bytes 0 within in
    let at : get_or bytes (position_or_len is_colon bytes) 0 ≡ 58 = colon_then _ (passes_at_first is_colon bytes 0 within) in
    let cut : bytes ≡ take (position_or_len is_colon bytes) bytes ++ 58 ∷ drop (position_or_len is_colon bytes + 1) bytes =
    split ∙ ap (λ (k : ℕ). take (position_or_len is_colon bytes) bytes ++ k ∷ drop (position_or_len is_colon bytes + 1) bytes) at in
    subst (λ (y : List ℕ × List ℕ). bytes ≡ y.0 ++ 58 ∷ y.1) (some_is (take b.0 bytes, drop (b.0 + 1) bytes) x b.2)
    (subst (λ (i : ℕ). bytes ≡ take i bytes ++ 58 ∷ drop (i + 1) bytes) c.1 cut)

-- ---- amounts

-- an amount that a field has
pub record IsAmount (z : ℤ) : Type 0 where
  pub not_zero : z ≢ pos 0
  pub bounded : Within (8 * 10 ^ 15) z

debit : (n : ℕ) → 1 ≤ n → n ≤ 8 * 10 ^ 15 → IsAmount (neg_ℤ (pos n)) × (signed_decimal (neg_ℤ (pos n)) ≡ 45 ∷ decimal n)
debit zero least most = absurd (omega (arith, least))
debit (suc n) least most = (record { not_zero = λ e. absurd cc; bounded = record { low = omega (arith, ints, most); high = omega (arith, ints) } }, refl)

credit : (n : ℕ) → 1 ≤ n → n ≤ 8 * 10 ^ 15 → IsAmount (pos n)
credit n least most = record { not_zero = λ e. omega (arith, ints, e, least); bounded = record { low = omega (arith, ints); high = omega (arith, ints, most) } }

pub amount_is : (bytes : List ℕ) (z : ℤ) → amount_of bytes ≡ Some z → IsAmount z × (bytes ≡ signed_decimal z)
unfolding amount_of
amount_is [] z told = absurd cc
amount_is (b ∷ bytes) z told =
    elim (either (eqb b 45) _ _ (Some z) told) [
      | inl h ↦
          let c = bind_some (λ (n : ℕ). Some (neg_ℤ (pos n))) (number_within 1 (8 * 10 ^ 15) bytes) z h.1 in
          let is = within_is 1 (8 * 10 ^ 15) bytes c.0 c.1 in
          let dash : b ≡ 45 = grind (arith, nat_tests, h.0) in
          let d = debit c.0 is.0 is.1 in
          subst (λ (y : ℤ). IsAmount y × (b ∷ bytes ≡ signed_decimal y)) (some_is (neg_ℤ (pos c.0)) z c.2)
          (d.0, ap (λ (k : ℕ). k ∷ bytes) dash ∙ ap (λ (ds : List ℕ). 45 ∷ ds) is.2 ∙ sym d.1)
      | inr h ↦
          let c = bind_some (λ (n : ℕ). Some (pos n)) (number_within 1 (8 * 10 ^ 15) (b ∷ bytes)) z h.1 in
          let is = within_is 1 (8 * 10 ^ 15) (b ∷ bytes) c.0 c.1 in
          subst (λ (y : ℤ). IsAmount y × (b ∷ bytes ≡ signed_decimal y)) (some_is (pos c.0) z c.2) (credit c.0 is.0 is.1, is.2)
    ]

credit_again : (ds : List ℕ) (n : ℕ) → are_digits ds ≡ true → 0 < length ds → number_within 1 (8 * 10 ^ 15) ds ≡ Some n → amount_of ds ≡ Some (pos n)
unfolding amount_of
credit_again [] n told some found = absurd (omega (arith, some))
credit_again (d ∷ ds) n told some found =
    let parts = and_parts (nat_le 48 d && nat_le d 57) (are_digits ds) told in
    let other : eqb d 45 ≡ false = grind (arith, nat_tests, parts.0) in
    ap (λ (t : Bool). cond t (option_and_then (λ n. Some (neg_ℤ (pos n))) (number_within 1 (8 * 10 ^ 15) ds)) (option_and_then (λ n. Some (pos n)) (number_within 1 (8 * 10 ^ 15) (d ∷ ds)))) other
    ∙ ap (option_and_then (λ (n : ℕ). Some (pos n))) found

debit_again : (n : ℕ) → number_within 1 (8 * 10 ^ 15) (decimal (suc n)) ≡ Some (suc n) → amount_of (45 ∷ decimal (suc n)) ≡ Some (negsuc n)
unfolding amount_of
debit_again n found = ap (option_and_then (λ n. Some (neg_ℤ (pos n)))) found

pub amount_again : (z : ℤ) → IsAmount z → amount_of (signed_decimal z) ≡ Some z
amount_again (pos zero) is = absurd (is.not_zero refl)
amount_again (pos (suc n)) is =
    let most : suc n ≤ 8 * 10 ^ 15 = omega (arith, ints, is.bounded.high) in
    credit_again (decimal (suc n)) (suc n) (decimal_digits (suc n) (omega (arith, most))) (decimal_nonempty (suc n) (omega (arith, most)))
    (within_again 1 (8 * 10 ^ 15) (suc n) (omega arith) (omega arith) most)
amount_again (negsuc n) is =
    let most : suc n ≤ 8 * 10 ^ 15 = omega (arith, ints, is.bounded.low) in
    debit_again n (within_again 1 (8 * 10 ^ 15) (suc n) (omega arith) (omega arith) most)

-- ---- effects and multipliers

pub effect_is : (end low : ℕ) (field : List ℕ) (e : Effect) → effect_of end low field ≡ Some e →
    (low ≤ e.line) × (e.line < end) × IsAmount e.amount × (field ≡ effect_field e)
unfolding effect_of
effect_is end low field e told =
    let a = bind_some (λ (cut : List ℕ × List ℕ). option_and_then (λ line. option_and_then (λ amount. Some (record { line = line; amount = amount })) (amount_of cut.1)) (number_below end low cut.0)) (cut_at_colon field) e told in
    let b = bind_some (λ (line : ℕ). option_and_then (λ amount. Some (record { line = line; amount = amount })) (amount_of a.0.1)) (number_below end low a.0.0) e a.2 in
    let c = bind_some (λ (amount : ℤ). Some (record { line = b.0; amount = amount })) (amount_of a.0.1) e b.2 in
    let line = below_is end low a.0.0 b.0 b.1 in
    let amount = amount_is a.0.1 c.0 c.1 in
    let made : Effect = record { line = b.0; amount = c.0 } in
    subst (λ (y : Effect). (low ≤ y.line) × (y.line < end) × IsAmount y.amount × (field ≡ effect_field y)) (some_is made e c.2)
    (line.0, line.1, amount.0, colon_is field a.0 a.1 ∙ ap (λ (d : List ℕ). d ++ 58 ∷ a.0.1) line.2 ∙ ap (λ (d : List ℕ). decimal b.0 ++ 58 ∷ d) amount.1)

pub effect_again : (end low : ℕ) (e : Effect) → end ≤ 2 ^ 32 → low ≤ e.line → e.line < end → IsAmount e.amount → effect_of end low (effect_field e) ≡ Some e
unfolding effect_of
effect_again end low e small least most is =
    ap (option_and_then (λ (cut : List ℕ × List ℕ). option_and_then (λ line. option_and_then (λ amount. Some (record { line = line; amount = amount })) (amount_of cut.1)) (number_below end low cut.0)))
    (colon_again (decimal e.line) (signed_decimal e.amount) (decimal_digits e.line (omega arith)))
    ∙ ap (option_and_then (λ (line : ℕ). option_and_then (λ amount. Some (record { line = line; amount = amount })) (amount_of (signed_decimal e.amount)))) (below_again end low e.line small least most)
    ∙ ap (option_and_then (λ (amount : ℤ). Some (record { line = e.line; amount = amount }))) (amount_again e.amount is)

pub multiplier_is : (end low : ℕ) (field : List ℕ) (m : ℕ × ℕ) → multiplier_of end low field ≡ Some m →
    (low ≤ m.0) × (m.0 < end) × (1 ≤ m.1) × (m.1 ≤ 2 ^ 44) × (field ≡ multiplier_field m)
unfolding multiplier_of
multiplier_is end low field m told =
    let a = bind_some (λ (cut : List ℕ × List ℕ). option_and_then (λ line. option_and_then (λ k. Some (line, k)) (number_within 1 (2 ^ 44) cut.1)) (number_below end low cut.0)) (cut_at_colon field) m told in
    let b = bind_some (λ (line : ℕ). option_and_then (λ k. Some (line, k)) (number_within 1 (2 ^ 44) a.0.1)) (number_below end low a.0.0) m a.2 in
    let c = bind_some (λ (k : ℕ). Some (b.0, k)) (number_within 1 (2 ^ 44) a.0.1) m b.2 in
    let line = below_is end low a.0.0 b.0 b.1 in
    let k = within_is 1 (2 ^ 44) a.0.1 c.0 c.1 in
    subst (λ (y : ℕ × ℕ). (low ≤ y.0) × (y.0 < end) × (1 ≤ y.1) × (y.1 ≤ 2 ^ 44) × (field ≡ multiplier_field y)) (some_is (b.0, c.0) m c.2)
    (line.0, line.1, k.0, k.1, colon_is field a.0 a.1 ∙ ap (λ (d : List ℕ). d ++ 58 ∷ a.0.1) line.2 ∙ ap (λ (d : List ℕ). decimal b.0 ++ 58 ∷ d) k.2)

pub multiplier_again : (end low : ℕ) (m : ℕ × ℕ) → end ≤ 2 ^ 32 → low ≤ m.0 → m.0 < end → 1 ≤ m.1 → m.1 ≤ 2 ^ 44 → multiplier_of end low (multiplier_field m) ≡ Some m
unfolding multiplier_of
multiplier_again end low m small least most one high =
    ap (option_and_then (λ (cut : List ℕ × List ℕ). option_and_then (λ line. option_and_then (λ k. Some (line, k)) (number_within 1 (2 ^ 44) cut.1)) (number_below end low cut.0)))
    (colon_again (decimal m.0) (decimal m.1) (decimal_digits m.0 (omega arith)))
    ∙ ap (option_and_then (λ (line : ℕ). option_and_then (λ k. Some (line, k)) (number_within 1 (2 ^ 44) (decimal m.1)))) (below_again end low m.0 small least most)
    ∙ ap (option_and_then (λ (k : ℕ). Some (m.0, k))) (within_again 1 (2 ^ 44) m.1 (omega arith) one high)
