use Rattle.std.proofs.Common.{◌≡◌, ℕ, ◌<◌, List, length, get_or, Option, Some, None, sym, ◌∙◌}
use Rattle.std.specs.Prelude.{IfSome, IfNone}
use Rattle.std.proofs.lemmas.List.{get_or_default}

-- two readings of one element
pub same_element : {X : Type 0} (xs : List X) (i : ℕ) (a b : X) → i < length xs → a ≡ get_or xs i a → b ≡ get_or xs i b → a ≡ b
same_element xs i a b within first second = first ∙ get_or_default xs i a b within ∙ sym second

pub element_is : {X : Type 0} (xs : List X) (i : ℕ) (a d : X) → i < length xs → a ≡ get_or xs i a → get_or xs i d ≡ a
element_is xs i a d within is = get_or_default xs i d a within ∙ sym is

pub some_map : (P Q : ℕ → Type 0) (r : Option ℕ) → ((k : ℕ) → P k → Q k) → IfSome r P → IfSome r Q
some_map P Q None to has = has
some_map P Q (Some k) to has = to k has

pub none_map : (P Q : Type 0) (r : Option ℕ) → (P → Q) → IfNone r P → IfNone r Q
none_map P Q None to has = to has
none_map P Q (Some k) to has = has
