use Rattle.std.specs.Prelude.{◌≡◌, ℕ, ◌+◌, List, length, slice_range}

-- these bytes stand on a device from a place on
abbrev pub StandFrom : ℕ → List ℕ → List ℕ → Type 0
StandFrom from bytes device = bytes ≡ slice_range device from (from + length bytes)
