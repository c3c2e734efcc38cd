use Rattle.std.specs.Prelude.{◌≡◌, ℕ, ◌+◌, ◌-◌, ◌*◌, Bool, Option, Some, None, List, [], ◌∷◌, decimal, nat_eq, nat_le, nat_lt, ◌&&◌, if◌then◌else◌}
use Rattle.std.specs.Cmp.Lexicographic.{pointwise}
use Rattle.dali_base.specs.Spelling.{is_name, DAY, moment_digits}

-- What the readers answer, as functions on bytes. That each is its spelling both ways is said by the readers' clauses.

abbrev pub same_bytes : List ℕ → List ℕ → Bool
same_bytes = pointwise nat_eq

-- the name that the bytes spell, if they spell one
unfoldable pub spelled_name : List ℕ → Option (List ℕ)
spelled_name bytes = if is_name bytes then Some bytes else None

-- the number that digits stand for, behind the number of the digits before them
abbrev pub number_from : ℕ → List ℕ → ℕ
number_from n [] = n
number_from n (digit ∷ digits) = number_from (10 * n + (digit - 48)) digits

-- the number up to max that the bytes spell, if they spell one
unfoldable pub spelled_number : ℕ → List ℕ → Option ℕ
spelled_number max bytes =
    if nat_le (number_from 0 bytes) max && same_bytes (decimal (number_from 0 bytes)) bytes then Some (number_from 0 bytes) else None

-- the seconds that six digits stand for
abbrev pub seconds_of : List ℕ → ℕ
seconds_of (a ∷ b ∷ c ∷ d ∷ e ∷ f ∷ []) =
    3600 * (10 * (a - 48) + (b - 48)) + 60 * (10 * (c - 48) + (d - 48)) + (10 * (e - 48) + (f - 48))
seconds_of _ = 0

-- the moment that the bytes spell, if they spell one
unfoldable pub spelled_moment : List ℕ → Option ℕ
spelled_moment bytes =
    if nat_lt (seconds_of bytes) DAY && same_bytes (moment_digits (seconds_of bytes)) bytes then Some (seconds_of bytes) else None
