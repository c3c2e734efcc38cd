use Rattle.std.specs.Prelude.{◌≡◌, ℕ, ◌+◌, ◌*◌, ◌/◌, ◌%◌, ◌≤◌, ◌<◌, Bool, List, [], ◌∷◌, ◌++◌, length, decimal, nat_le, ◌&&◌, ◌||◌}
use Rattle.std.specs.List.{list_all}
use Rattle.dali_base.specs.Limits.{most_name}

-- A to Z or 0 to 9
abbrev pub is_name_byte : ℕ → Bool
is_name_byte b = (nat_le 65 b && nat_le b 90) || (nat_le 48 b && nat_le b 57)

-- a name (account, code, id): 1 to 12 such bytes
abbrev pub is_name : List ℕ → Bool
is_name bytes = nat_le 1 (length bytes) && nat_le (length bytes) most_name && list_all is_name_byte bytes

-- these bytes spell the number n, which is at most max: decimal, without a sign or a leading zero
pub record IsNumber (max : ℕ) (bytes : List ℕ) (n : ℕ) : Type 0 where
  pub within : n ≤ max
  pub digits : bytes ≡ decimal n

-- a number below 100 in two digits
abbrev pub two_digits : ℕ → List ℕ
two_digits n = (48 + n / 10) ∷ (48 + n % 10) ∷ []

-- the seconds of a day
abbrev pub DAY : ℕ
DAY = 86400

-- a moment, as the seconds since midnight, in six digits: two of the hour, two of the minute, two of the second
abbrev pub moment_digits : ℕ → List ℕ
moment_digits s = two_digits (s / 3600) ++ two_digits (s / 60 % 60) ++ two_digits (s % 60)
