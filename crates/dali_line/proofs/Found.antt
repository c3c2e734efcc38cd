use Rattle.std.proofs.Common.{◌≡◌, ◌∙◌, ℕ, ◌<◌, ◌≤◌, ◌^◌, true, length, Option, Some, List, [], ◌∷◌, refl, ap, arith}
use Rattle.std.specs.Prelude.{decimal, option_and_then}
use Rattle.std.specs.List.{list_all}
use Rattle.dali_base.specs.Spelling.{moment_digits}
use Rattle.dali_base.specs.Readers.{spelled_name, spelled_moment}
use Rattle.dali_base.specs.declared.kind.Kind.{Kind}
use Rattle.dali_base.specs.declared.kind.Kind.TheVariants as kinds
use Rattle.dali_base.proofs.Spelled.{both, name_found, moment_found}
use Rattle.dali_base.specs.Limits.{most_quantity, most_price, most_budget, most_rank}
use Rattle.dali_line.specs.declared.command.Verb.{Verb}
use Rattle.dali_line.specs.declared.command.Verb.TheVariants.{Part, Inst, Issue, Draw, Dvp, Fop, Pay, Cancel, Settle, Cutoff, Cycle, Queue, Close, Stat, Ledger, Earmark, Release, Link, Rank}
use Rattle.dali_line.specs.Grammar.{pieces_of, kind_text, IsQuantity, IsName, IsWithin, HasFields}
use Rattle.dali_line.specs.Reading.{spelled_within, spelled_alone, named_verb, spelled_with_one, spelled_with_two, holding_verb, spelled_with_three, spelled_with_four, spelled_with_five, spelled_with_six, spelled_verb}
use Rattle.dali_line.proofs.Plain.{is_piece, name_piece, decimal_piece, moment_piece}
use Rattle.dali_line.proofs.Steps.{within_found, kind_found}

-- What is in the grammar is read, and no piece of it has a comma.

-- a chain goes on behind a name, a number
pub after_name : {B : Type 0} (f : List ℕ → Option B) (name : List ℕ) (y : Option B) → IsName name → f name ≡ y → option_and_then f (spelled_name name) ≡ y
after_name f name y is told = ap (option_and_then f) (name_found name is) ∙ told

pub after_number : {B : Type 0} (f : ℕ → Option B) (low high n : ℕ) (y : Option B) → high < 2 ^ 64 → IsWithin low high n → f n ≡ y →
    option_and_then f (spelled_within low high (decimal n)) ≡ y
after_number f low high n y small is told = ap (option_and_then f) (within_found low high n small is) ∙ told

-- a quantity
after_quantity : {B : Type 0} (f : ℕ → Option B) (n : ℕ) (y : Option B) → IsQuantity n → f n ≡ y → option_and_then f (spelled_within 1 most_quantity (decimal n)) ≡ y
after_quantity f n y is told = after_number f 1 most_quantity n y (omega arith) is told

pub verb_found : (v : Verb) → HasFields v → spelled_verb (pieces_of v) ≡ Some v
unfolding spelled_verb spelled_alone named_verb spelled_with_one spelled_with_two holding_verb spelled_with_three spelled_with_four spelled_with_five spelled_with_six
verb_found (Part a) h = after_name _ a (Some (Part a)) h refl
verb_found (Cancel a) h = after_name _ a (Some (Cancel a)) h refl
verb_found (Settle a) h = after_name _ a (Some (Settle a)) h refl
verb_found (Stat a) h = after_name _ a (Some (Stat a)) h refl
verb_found (Ledger a) h = after_name _ a (Some (Ledger a)) h refl
verb_found (Cycle b) h = after_number _ 0 most_budget b (Some (Cycle b)) (omega arith) h refl
verb_found Queue h = refl
verb_found Close h = refl
verb_found (Inst c p) h = after_name _ c (Some (Inst c p)) h.0 (after_number _ 1 most_price p (Some (Inst c p)) (omega arith) h.1 refl)
verb_found (Cutoff k m) h = ap (option_and_then (λ k. option_and_then (λ n. Some (Cutoff k n)) (spelled_moment (moment_digits m)))) (kind_found k) ∙ ap (option_and_then (λ n. Some (Cutoff k n))) (moment_found (moment_digits m) m h refl)
verb_found (Link f s) h = after_name _ f (Some (Link f s)) h.0 (after_name _ s (Some (Link f s)) h.1 refl)
verb_found (Rank i r) h = after_name _ i (Some (Rank i r)) h.0 (after_number _ 1 most_rank r (Some (Rank i r)) (omega arith) h.1 refl)
verb_found (Issue a s q) h = after_name _ a (Some (Issue a s q)) h.0 (after_name _ s (Some (Issue a s q)) h.1 (after_quantity _ q (Some (Issue a s q)) h.2 refl))
verb_found (Draw a s q) h = after_name _ a (Some (Draw a s q)) h.0 (after_name _ s (Some (Draw a s q)) h.1 (after_quantity _ q (Some (Draw a s q)) h.2 refl))
verb_found (Earmark a s q) h = after_name _ a (Some (Earmark a s q)) h.0 (after_name _ s (Some (Earmark a s q)) h.1 (after_quantity _ q (Some (Earmark a s q)) h.2 refl))
verb_found (Release a s q) h = after_name _ a (Some (Release a s q)) h.0 (after_name _ s (Some (Release a s q)) h.1 (after_quantity _ q (Some (Release a s q)) h.2 refl))
verb_found (Pay i f t c) h = let v = Some (Pay i f t c) in after_name _ i v h.0 (after_name _ f v h.1 (after_name _ t v h.2 (after_quantity _ c v h.3 refl)))
verb_found (Fop i f t c q) h = let v = Some (Fop i f t c q) in after_name _ i v h.0 (after_name _ f v h.1 (after_name _ t v h.2 (after_name _ c v h.3 (after_quantity _ q v h.4 refl))))
verb_found (Dvp i s b c q m) h = let v = Some (Dvp i s b c q m) in after_name _ i v h.0 (after_name _ s v h.1 (after_name _ b v h.2 (after_name _ c v h.3 (after_quantity _ q v h.4 (after_quantity _ m v h.5 refl)))))

kind_piece : (k : Kind) → is_piece (kind_text k) ≡ true
kind_piece kinds.Dvp = refl
kind_piece kinds.Fop = refl
kind_piece kinds.Pay = refl

-- one plain piece before others
and_name : (name : List ℕ) (others : List (List ℕ)) → IsName name → list_all is_piece others ≡ true → list_all is_piece (name ∷ others) ≡ true
and_name name others is rest = both (is_piece name) (list_all is_piece others) (name_piece name is) rest

and_number : (low high n : ℕ) (others : List (List ℕ)) → high < 10 ^ 16 → IsWithin low high n → list_all is_piece others ≡ true →
    list_all is_piece (decimal n ∷ others) ≡ true
and_number low high n others small is rest = both (is_piece (decimal n)) (list_all is_piece others) (decimal_piece n (omega (arith, is.most, small))) rest

and_quantity : (n : ℕ) (others : List (List ℕ)) → IsQuantity n → list_all is_piece others ≡ true → list_all is_piece (decimal n ∷ others) ≡ true
and_quantity n others is rest = and_number 1 most_quantity n others (omega arith) is rest

pub verb_pieces : (v : Verb) → HasFields v → list_all is_piece (pieces_of v) ≡ true
verb_pieces (Part a) h = and_name a [] h refl
verb_pieces (Cancel a) h = and_name a [] h refl
verb_pieces (Settle a) h = and_name a [] h refl
verb_pieces (Stat a) h = and_name a [] h refl
verb_pieces (Ledger a) h = and_name a [] h refl
verb_pieces (Cycle b) h = and_number 0 most_budget b [] (omega arith) h refl
verb_pieces Queue h = refl
verb_pieces Close h = refl
verb_pieces (Inst c p) h = and_name c (decimal p ∷ []) h.0 (and_number 1 most_price p [] (omega arith) h.1 refl)
verb_pieces (Cutoff k m) h = both (is_piece (kind_text k)) (list_all is_piece (moment_digits m ∷ [])) (kind_piece k) (both (is_piece (moment_digits m)) true (moment_piece m) refl)
verb_pieces (Link f s) h = and_name f (s ∷ []) h.0 (and_name s [] h.1 refl)
verb_pieces (Rank i r) h = and_name i (decimal r ∷ []) h.0 (and_number 1 most_rank r [] (omega arith) h.1 refl)
verb_pieces (Issue a s q) h = and_name a (s ∷ decimal q ∷ []) h.0 (and_name s (decimal q ∷ []) h.1 (and_quantity q [] h.2 refl))
verb_pieces (Draw a s q) h = and_name a (s ∷ decimal q ∷ []) h.0 (and_name s (decimal q ∷ []) h.1 (and_quantity q [] h.2 refl))
verb_pieces (Earmark a s q) h = and_name a (s ∷ decimal q ∷ []) h.0 (and_name s (decimal q ∷ []) h.1 (and_quantity q [] h.2 refl))
verb_pieces (Release a s q) h = and_name a (s ∷ decimal q ∷ []) h.0 (and_name s (decimal q ∷ []) h.1 (and_quantity q [] h.2 refl))
verb_pieces (Pay i f t c) h = and_name i (f ∷ t ∷ decimal c ∷ []) h.0 (and_name f (t ∷ decimal c ∷ []) h.1 (and_name t (decimal c ∷ []) h.2 (and_quantity c [] h.3 refl)))
verb_pieces (Fop i f t c q) h = and_name i (f ∷ t ∷ c ∷ decimal q ∷ []) h.0 (and_name f (t ∷ c ∷ decimal q ∷ []) h.1 (and_name t (c ∷ decimal q ∷ []) h.2 (and_name c (decimal q ∷ []) h.3 (and_quantity q [] h.4 refl))))
verb_pieces (Dvp i s b c q m) h = and_name i (s ∷ b ∷ c ∷ decimal q ∷ decimal m ∷ []) h.0 (and_name s (b ∷ c ∷ decimal q ∷ decimal m ∷ []) h.1 (and_name b (c ∷ decimal q ∷ decimal m ∷ []) h.2 (and_name c (decimal q ∷ decimal m ∷ []) h.3 (and_quantity q (decimal m ∷ []) h.4 (and_quantity m [] h.5 refl)))))

-- a verb has a word and at most six fields
pub few_pieces : (v : Verb) → length (pieces_of v) ≤ 7
few_pieces (Part a) = omega arith
few_pieces (Cancel a) = omega arith
few_pieces (Settle a) = omega arith
few_pieces (Stat a) = omega arith
few_pieces (Ledger a) = omega arith
few_pieces (Cycle b) = omega arith
few_pieces (Inst c p) = omega arith
few_pieces (Cutoff k m) = omega arith
few_pieces (Link f s) = omega arith
few_pieces (Rank i r) = omega arith
few_pieces (Issue a s q) = omega arith
few_pieces (Draw a s q) = omega arith
few_pieces (Earmark a s q) = omega arith
few_pieces (Release a s q) = omega arith
few_pieces (Pay i f t c) = omega arith
few_pieces (Fop i f t c q) = omega arith
few_pieces (Dvp i s b c q m) = omega arith
few_pieces Queue = omega arith
few_pieces Close = omega arith
