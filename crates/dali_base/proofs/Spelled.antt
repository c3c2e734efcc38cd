use Rattle.std.proofs.Common.{◌≡◌, ◌≢◌, ◌∙◌, ℕ, ◌+◌, ◌-◌, ◌*◌, ◌/◌, ◌%◌, ◌^◌, ◌<◌, ◌≤◌, Bool, true, false, cond, eqb, Option, Some, None, List, [], ◌∷◌, ◌++◌, length, refl, sym, ap, subst, inl, inr, arith, rules}
use Rattle.std.proofs.lemmas.Bool.Decides.{nat_tests}
use Rattle.std.proofs.lemmas.Str.Parse.{IsNumeralModel, numerals_by_fold}
use Rattle.std.proofs.lemmas.Fmt.{digits_value-decimal}
use Rattle.std.specs.Str.{all_ascii_digits}
use Rattle.std.specs.Prelude.{decimal, nat_eq, nat_le, nat_lt, ◌&&◌, IsTrue, IfSome, IfNone}
use Rattle.std.specs.Cmp.Lexicographic.{pointwise}
use Rattle.dali_base.specs.Spelling.{is_name, IsNumber, DAY, moment_digits, two_digits}
use Rattle.dali_base.specs.Readers.{same_bytes, spelled_name, number_from, spelled_number, seconds_of, spelled_moment}

pub and_parts : (a b : Bool) → (a && b) ≡ true → (a ≡ true) × (b ≡ true)
and_parts true b told = (refl, told)
and_parts false b told = cc

pub same_itself : (xs : List ℕ) → same_bytes xs xs ≡ true
same_itself [] = refl
same_itself (x ∷ xs) = grind (arith, nat_tests, same_itself xs)

pub same_then : (xs ys : List ℕ) → same_bytes xs ys ≡ true → xs ≡ ys
same_then [] [] told = refl
same_then [] (y ∷ ys) told = cc
same_then (x ∷ xs) [] told = cc
same_then (x ∷ xs) (y ∷ ys) told =
    let parts = and_parts (eqb x y) (same_bytes xs ys) told in
    let head : x ≡ y = grind (arith, nat_tests, parts.0) in
    let tail : xs ≡ ys = same_then xs ys parts.1 in cc

-- what an if with no other answer has answered
pub chosen : {A : Type 0} (b : Bool) (x y : A) → cond b (Some x) None ≡ Some y → (b ≡ true) × (x ≡ y)
chosen true x y told = (refl, cc)
chosen false x y told = cc

pub taken : {A : Type 0} (b : Bool) (x : A) → b ≡ true → cond b (Some x) None ≡ Some x
taken b x told = ap (λ (t : Bool). cond t (Some x) None) told

pub both : (a b : Bool) → a ≡ true → b ≡ true → (a && b) ≡ true
both a b p q = ap (λ t. t && b) p ∙ q

pub nothing : {A : Type 0} (o : Option A) → ((x : A) → o ≡ Some x → ⊥) → o ≡ None
nothing None not = refl
nothing (Some x) not = absurd (not x refl)

pub own : IsNumeralModel (λ ds. all_ascii_digits ds ≡ true) (number_from 0)
own = numerals_by_fold _ (search rules) number_from (search rules)

pub number_spelled : (max : ℕ) (bytes : List ℕ) (n : ℕ) → spelled_number max bytes ≡ Some n → IsNumber max bytes n
unfolding spelled_number
number_spelled max bytes n told =
    let parts = chosen _ (number_from 0 bytes) n told in
    let tests = and_parts (nat_le (number_from 0 bytes) max) _ parts.0 in
    let within : number_from 0 bytes ≤ max = grind (arith, nat_tests, tests.0) in
    record { within = subst (λ k. k ≤ max) parts.1 within; digits = sym (same_then (decimal (number_from 0 bytes)) bytes tests.1) ∙ ap decimal parts.1 }

pub number_found : (max : ℕ) (bytes : List ℕ) (n : ℕ) → max < 2 ^ 64 → IsNumber max bytes n → spelled_number max bytes ≡ Some n
unfolding spelled_number
number_found max bytes n small is =
    let back : number_from 0 bytes ≡ n =
    ap (number_from 0) is.digits ∙ digits_value-decimal own n (omega (arith, is.within)) in
    let within : nat_le n max ≡ true = grind (arith, nat_tests, is.within) in
    let spelled : same_bytes (decimal n) bytes ≡ true = subst (λ bs. same_bytes (decimal n) bs ≡ true) (sym is.digits) (same_itself (decimal n)) in
    let told : (nat_le n max && same_bytes (decimal n) bytes) ≡ true = both _ _ within spelled in
    subst (λ k. cond (nat_le k max && same_bytes (decimal k) bytes) (Some k) None ≡ Some n) (sym back) (taken _ n told)

pub number_exact : (max : ℕ) (bytes : List ℕ) (r : Option ℕ) → max < 2 ^ 64 → IfSome r (λ n. IsNumber max bytes n) →
    IfNone r ((n : ℕ) → IsNumber max bytes n → ⊥) → r ≡ spelled_number max bytes
number_exact max bytes (Some n) small some none = sym (number_found max bytes n small some)
number_exact max bytes None small some none = sym (nothing (spelled_number max bytes) (λ n told. none n (number_spelled max bytes n told)))

seconds_back : (s : ℕ) → s < 86400 → seconds_of (moment_digits s) ≡ s
seconds_back s small = omega arith

pub moment_spelled : (bytes : List ℕ) (s : ℕ) → spelled_moment bytes ≡ Some s → (s < DAY) × (bytes ≡ moment_digits s)
unfolding spelled_moment
moment_spelled bytes s told =
    let parts = chosen _ (seconds_of bytes) s told in
    let tests = and_parts (nat_lt (seconds_of bytes) DAY) _ parts.0 in
    let within : seconds_of bytes < 86400 = grind (arith, nat_tests, tests.0) in
    (subst (λ k. k < 86400) parts.1 within, sym (same_then (moment_digits (seconds_of bytes)) bytes tests.1) ∙ ap moment_digits parts.1)

pub moment_found : (bytes : List ℕ) (s : ℕ) → s < DAY → bytes ≡ moment_digits s → spelled_moment bytes ≡ Some s
unfolding spelled_moment
moment_found bytes s small is =
    let back : seconds_of bytes ≡ s = ap seconds_of is ∙ seconds_back s small in
    let within : nat_lt s DAY ≡ true = grind (arith, nat_tests, small) in
    let spelled : same_bytes (moment_digits s) bytes ≡ true = subst (λ bs. same_bytes (moment_digits s) bs ≡ true) (sym is) (same_itself (moment_digits s)) in
    let told : (nat_lt s DAY && same_bytes (moment_digits s) bytes) ≡ true = both _ _ within spelled in
    subst (λ k. cond (nat_lt k DAY && same_bytes (moment_digits k) bytes) (Some k) None ≡ Some s) (sym back) (taken _ s told)

pub moment_exact : (bytes : List ℕ) (r : Option ℕ) → IfSome r (λ s. (s < DAY) × (bytes ≡ moment_digits s)) →
    IfNone r ((s : ℕ) → s < DAY → bytes ≡ moment_digits s → ⊥) → r ≡ spelled_moment bytes
moment_exact bytes (Some s) some none = sym (moment_found bytes s some.0 some.1)
moment_exact bytes None some none = sym (nothing (spelled_moment bytes) (λ s told. none s (moment_spelled bytes s told).0 (moment_spelled bytes s told).1))

pub name_spelled : (bytes name : List ℕ) → spelled_name bytes ≡ Some name → IsTrue (is_name bytes) × (name ≡ bytes)
unfolding spelled_name
name_spelled bytes name told = let parts = chosen (is_name bytes) bytes name told in (parts.0, sym parts.1)

pub name_found : (name : List ℕ) → IsTrue (is_name name) → spelled_name name ≡ Some name
unfolding spelled_name
name_found name told = taken (is_name name) name told
