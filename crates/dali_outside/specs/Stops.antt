use Rattle.std.specs.Prelude.{◌≡◌, ◌⊎◌, ℕ, ◌<◌, Bool, true, false, List, [], ◌∷◌, ◌++◌, length, take, drop}
use Rattle.dali_outside.specs.Outside.{Moment, Sight, now}

-- what a stop leaves on a disk: as many bytes as it has, the same ones where nothing is loose, and any where it is
abbrev pub IsImage : List ℕ → List Bool → List ℕ → Type 0
IsImage [] [] [] = Unit {0}
IsImage (b ∷ bytes) (true ∷ loose) (c ∷ image) = (c < 256) × IsImage bytes loose image
IsImage (b ∷ bytes) (false ∷ loose) (c ∷ image) = (c ≡ b) × IsImage bytes loose image
IsImage _ _ _ = ⊥

-- a stop at this moment may leave this image, with this text printed
pub record MayLeave (moment : Moment) (image text : List ℕ) : Type 0 where
  pub disk : IsImage moment.bytes moment.loose image
  pub n : ℕ
  pub printed : text ≡ moment.text ++ take n moment.piece

-- a stop at one of these moments
abbrev pub LeftAtOne : List Moment → List ℕ → List ℕ → Type 0
LeftAtOne [] image text = ⊥
LeftAtOne (moment ∷ moments) image text = MayLeave moment image text ⊎ LeftAtOne moments image text

-- a stop at some moment since the t-th, counted from 0, might have left this image, with this text printed
abbrev pub MightHaveLeft : Sight → ℕ → List ℕ → List ℕ → Type 0
MightHaveLeft s t image text = LeftAtOne (drop t (s.past ++ now s ∷ [])) image text

-- a stop at the t-th moment, counted from 0, might have left this image, with this text printed
abbrev pub MightHaveLeftAt : Sight → ℕ → List ℕ → List ℕ → Type 0
MightHaveLeftAt s t image text = LeftAtOne (take 1 (drop t (s.past ++ now s ∷ []))) image text

-- whatever a stop at this moment leaves has P
abbrev pub Keeps : (List ℕ → List ℕ → Type 0) → Moment → Type 0
Keeps P moment = (image text : List ℕ) → MayLeave moment image text → P image text

-- whatever a stop since old leaves has P, and the moments before old are what they were
pub record LeavesOnly (P : List ℕ → List ℕ → Type 0) (old new : Sight) : Type 0 where
  pub kept : take (length old.past) new.past ≡ old.past
  pub each : (image text : List ℕ) → MightHaveLeft new (length old.past) image text → P image text
