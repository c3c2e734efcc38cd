use Rattle.std.specs.Prelude.{ℕ}

-- The numbers of the Sum. Each stands here as a number and nowhere else; in code it is the constant of the same name in
-- `src/limits.rt`, which is proved equal to it. The greatest multiplier stands on the page of this name of dali_base.

-- the scale of multipliers, so many to the centavo; a Sum below it is settled
abbrev pub scale : ℕ
scale = 4096

-- a gain takes at least one of so many equal parts of the Sum
abbrev pub gain_parts : ℕ
gain_parts = 1024
