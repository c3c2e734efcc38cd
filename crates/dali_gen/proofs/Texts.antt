use Rattle.std.proofs.Common.{◌≡◌, ◌∙◌, ℕ, zero, suc, ◌+◌, List, [], ◌∷◌, ◌++◌, map, sym, ap, append_assoc, Ok, Err, arith}
use Rattle.std.specs.Prelude.{OnOk}
use Rattle.std.specs.declared.result.Result.{Result}
use Rattle.std.proofs.lemmas.List.{append-nil}
use Rattle.std.proofs.lemmas.List.Concat.{flat_map-append}
use Rattle.std.proofs.lemmas.List.FromFn.{map-range_with_len_more}
use Rattle.std.specs.List.{flat_map, range_with_len}
use Rattle.dali_gen.specs.Day.{text_of}

-- the text of one more line
pub text_more : (f : ℕ → List ℕ) (a n j : ℕ) → a + n ≡ j →
    text_of (map f (range_with_len a (n + 1))) ≡ text_of (map f (range_with_len a n)) ++ (f j ++ 10 ∷ [])
text_more f a n j is =
    ap text_of (map-range_with_len_more f a n j is)
    ∙ flat_map-append (λ line. line ++ 10 ∷ []) (map f (range_with_len a n)) (f j ∷ [])
    ∙ ap (λ t. text_of (map f (range_with_len a n)) ++ t) (append-nil (f j ++ 10 ∷ []))

-- a line that was added in two pieces, in three and in four
pub two_added : (old t after a b : List ℕ) → t ≡ old ++ a → after ≡ t ++ b → after ≡ old ++ (a ++ b)
two_added old t after a b one two = two ∙ ap (λ x. x ++ b) one ∙ append_assoc old a b

pub three_added : (old t u after a b c : List ℕ) → t ≡ old ++ a → u ≡ t ++ b → after ≡ u ++ c → after ≡ old ++ (a ++ (b ++ c))
three_added old t u after a b c one two three =
    two_added old t after a (b ++ c) one (two_added t u after b c two three)

pub four_added : (old t u v after a b c d : List ℕ) → t ≡ old ++ a → u ≡ t ++ b → v ≡ u ++ c → after ≡ v ++ d →
    after ≡ old ++ (a ++ (b ++ (c ++ d)))
four_added old t u v after a b c d one two three four =
    two_added old t after a (b ++ (c ++ d)) one (three_added t u v after b c d two three four)

-- no line yet
pub text_begun : (f : ℕ → List ℕ) (a : ℕ) (old : List ℕ) → old ≡ old ++ text_of (map f (range_with_len a 0))
text_begun f a old = sym (append-nil old)

-- lines by lines
pub text_step : (f : ℕ → List ℕ) (a n j : ℕ) (old before after : List ℕ) → a + n ≡ j →
    before ≡ old ++ text_of (map f (range_with_len a n)) → after ≡ before ++ (f j ++ 10 ∷ []) →
    after ≡ old ++ text_of (map f (range_with_len a (n + 1)))
text_step f a n j old before after is told grew =
    two_added old before after (text_of (map f (range_with_len a n))) (f j ++ 10 ∷ []) told grew ∙ ap (λ t. old ++ t) (sym (text_more f a n j is))

-- all lines
pub text_told : (f : ℕ → List ℕ) (a n m : ℕ) (old text : List ℕ) → n ≡ m →
    text ≡ old ++ text_of (map f (range_with_len a n)) → text ≡ old ++ text_of (map f (range_with_len a m))
text_told f a n m old text same told = told ∙ ap (λ k. old ++ text_of (map f (range_with_len a k))) same

-- what is so where a call succeeds
pub on_ok : {X E A B : Type 0} (r : Result X E) → (A → B) → OnOk r A → OnOk r B
on_ok (Ok x) f told = f told
on_ok (Err e) f told = tt

pub ok_anyway : {X E B : Type 0} (r : Result X E) → B → OnOk r B
ok_anyway (Ok x) told = told
ok_anyway (Err e) told = tt

-- lines and a last one
pub text_last : (lines : List (List ℕ)) (line : List ℕ) → text_of (lines ++ line ∷ []) ≡ text_of lines ++ (line ++ 10 ∷ [])
text_last lines line =
    flat_map-append (λ l. l ++ 10 ∷ []) lines (line ∷ []) ∙ ap (λ t. text_of lines ++ t) (append-nil (line ++ 10 ∷ []))

-- one more number
pub range_more : (a n : ℕ) → range_with_len a (n + 1) ≡ range_with_len a n ++ (a + n) ∷ []
range_more a zero = ap (λ k. k ∷ []) (omega arith)
range_more a (suc n) =
    let more : suc n + 1 ≡ suc (n + 1) = omega arith in
    let last : a + 1 + n ≡ a + suc n = omega arith in
    ap (range_with_len a) more
    ∙ ap (λ ks. a ∷ ks) (range_more (a + 1) n)
    ∙ ap (λ k. a ∷ (range_with_len (a + 1) n ++ k ∷ [])) last

-- the text of lines by groups, one more group
pub groups_more : (f : ℕ → List (List ℕ)) (n : ℕ) →
    text_of (flat_map f (range_with_len 0 (n + 1))) ≡ text_of (flat_map f (range_with_len 0 n)) ++ text_of (f n)
groups_more f n =
    let last : 0 + n ≡ n = omega arith in
    ap (λ ks. text_of (flat_map f ks)) (range_more 0 n ∙ ap (λ k. range_with_len 0 n ++ k ∷ []) last)
    ∙ ap text_of (flat_map-append f (range_with_len 0 n) (n ∷ []) ∙ ap (λ ls. flat_map f (range_with_len 0 n) ++ ls) (append-nil (f n)))
    ∙ flat_map-append (λ l. l ++ 10 ∷ []) (flat_map f (range_with_len 0 n)) (f n)

pub groups_step : (f : ℕ → List (List ℕ)) (n : ℕ) (old before after : List ℕ) →
    before ≡ old ++ text_of (flat_map f (range_with_len 0 n)) → after ≡ before ++ text_of (f n) →
    after ≡ old ++ text_of (flat_map f (range_with_len 0 (n + 1)))
groups_step f n old before after told grew =
    two_added old before after (text_of (flat_map f (range_with_len 0 n))) (text_of (f n)) told grew ∙ ap (λ t. old ++ t) (sym (groups_more f n))

pub groups_told : (f : ℕ → List (List ℕ)) (n m : ℕ) (old text : List ℕ) → n ≡ m →
    text ≡ old ++ text_of (flat_map f (range_with_len 0 n)) → text ≡ old ++ text_of (flat_map f (range_with_len 0 m))
groups_told f n m old text same told = told ∙ ap (λ k. old ++ text_of (flat_map f (range_with_len 0 k))) same
