use Rattle.std.proofs.Common.{◌≡◌, Bool, true, false, refl}
use Rattle.std.specs.Prelude.{Result, Ok, Option, None}

-- a reader that gave an answer that one that is over doesn't give isn't over
pub is_running : {X E : Type 0} (b : Bool) (r : Result (Option X) E) → (b ≡ true → r ≡ Ok None) → (r ≡ Ok None → ⊥) → b ≡ false
is_running true r over other = absurd (other (over refl))
is_running false r over other = refl
