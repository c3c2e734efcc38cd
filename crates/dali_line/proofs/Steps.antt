use Rattle.std.proofs.Common.{◌≡◌, ◌∙◌, ℕ, ◌≤◌, ◌<◌, ◌^◌, Bool, true, false, cond, Option, Some, None, List, refl, ap, subst, arith}
use Rattle.std.proofs.lemmas.Bool.Decides.{nat_tests}
use Rattle.std.specs.Prelude.{option_and_then, decimal, nat_le, codes}
use Rattle.dali_base.specs.declared.kind.Kind.{Kind}
use Rattle.dali_base.specs.declared.kind.Kind.TheVariants as kinds
use Rattle.dali_base.specs.Readers.{same_bytes, spelled_number}
use Rattle.dali_base.proofs.Spelled.{chosen, number_spelled, number_found, same_then}
use Rattle.dali_line.specs.Grammar.{IsWithin, kind_text}
use Rattle.dali_line.specs.Reading.{spelled_within, spelled_kind}

-- what a chain that answered has met
pub bind_some : {A B : Type 0} (f : A → Option B) (o : Option A) (y : B) → option_and_then f o ≡ Some y → (x : A) × (o ≡ Some x) × (f x ≡ Some y)
bind_some f None y told = cc
bind_some f (Some x) y told = (x, refl, told)

pub bind_none : {A B : Type 0} (f : A → Option B) (o : Option A) → ((x : A) → f x ≡ None) → option_and_then f o ≡ None
bind_none f None never = refl
bind_none f (Some x) never = never x

-- one word of a row of words: it is this one, or the answer is of the words behind it
pub by_word : {A : Type 0} (P : Type 0) (t : Bool) (o rest : Option A) (v : A) → cond t o rest ≡ Some v →
    (t ≡ true → o ≡ Some v → P) → (rest ≡ Some v → P) → P
by_word P true o rest v told hit miss = hit refl told
by_word P false o rest v told hit miss = miss told

nothing_is_something : {A : Type 0} (v : A) → None ≡ Some v → ⊥
nothing_is_something v told = cc

pub no_word : {A : Type 0} (P : Type 0) (v : A) → None ≡ Some v → P
no_word P v told = absurd (nothing_is_something v told)

pub within_spelled : (low high : ℕ) (bytes : List ℕ) (n : ℕ) → spelled_within low high bytes ≡ Some n → IsWithin low high n × (bytes ≡ decimal n)
unfolding spelled_within
within_spelled low high bytes n told =
    let step = bind_some _ (spelled_number high bytes) n told in
    let test = chosen (nat_le low step.0) step.0 n step.2 in
    let number = number_spelled high bytes step.0 step.1 in
    let least : low ≤ step.0 = grind (arith, nat_tests, test.0) in
    (record { least = subst (λ k. low ≤ k) test.1 least; most = subst (λ k. k ≤ high) test.1 number.within }, number.digits ∙ ap decimal test.1)

pub within_found : (low high n : ℕ) → high < 2 ^ 64 → IsWithin low high n → spelled_within low high (decimal n) ≡ Some n
unfolding spelled_within
within_found low high n small is =
    let number = number_found high (decimal n) n small (record { within = is.most; digits = refl }) in
    let least : nat_le low n ≡ true = grind (arith, nat_tests, is.least) in
    ap (option_and_then (λ k. cond (nat_le low k) (Some k) None)) number ∙ ap (λ (t : Bool). cond t (Some n) None) least

pub some_same : {A : Type 0} {x y : A} → Some x ≡ Some y → x ≡ y
some_same told = cc

pub kind_spelled : (bytes : List ℕ) (k : Kind) → spelled_kind bytes ≡ Some k → bytes ≡ kind_text k
unfolding spelled_kind
kind_spelled bytes k told =
    by_word (bytes ≡ kind_text k) (same_bytes bytes (codes "DVP")) (Some kinds.Dvp) _ k told
    (λ t is. same_then bytes (codes "DVP") t ∙ ap kind_text (some_same is))
    (λ rest. by_word (bytes ≡ kind_text k) (same_bytes bytes (codes "FOP")) (Some kinds.Fop) _ k rest
    (λ t is. same_then bytes (codes "FOP") t ∙ ap kind_text (some_same is))
    (λ rest2. by_word (bytes ≡ kind_text k) (same_bytes bytes (codes "PAY")) (Some kinds.Pay) _ k rest2
    (λ t is. same_then bytes (codes "PAY") t ∙ ap kind_text (some_same is))
    (λ none. no_word (bytes ≡ kind_text k) k none)))

pub kind_found : (k : Kind) → spelled_kind (kind_text k) ≡ Some k
unfolding spelled_kind
kind_found kinds.Dvp = refl
kind_found kinds.Fop = refl
kind_found kinds.Pay = refl
