use Rattle.std.specs.Prelude.{◌≡◌, ℕ, ◌+◌, ◌-◌, Bool, true, false, List, [], ◌∷◌, ◌++◌, length, take, drop, replicate, if◌then◌else◌}
use Rattle.dali_outside.specs.Outside.{Moment, overlay}
use Rattle.dali_outside.specs.declared.step.Step.{Step}
use Rattle.dali_outside.specs.declared.step.Step.TheVariants.{Wrote, Loosened, Synced, Printed}

-- a disk and a console with what they were before: the bytes, the marks, the text, the moments that are over, the
-- numbers of steps and of replaced bytes, the rooms for these and for text, and whether each loosening was noted
pub record Reel : Type 0 where
  pub bytes : List ℕ
  pub loose : List Bool
  pub text : List ℕ
  pub past : List Moment
  pub steps : ℕ
  pub replaced : ℕ
  pub text_room : ℕ
  pub step_room : ℕ
  pub replaced_room : ℕ
  pub noted : Bool

-- the last n items of a list, and those before them
abbrev pub back : {X : Type 0} → ℕ → List X → List X
back n xs = drop (length xs - n) xs

abbrev pub front : {X : Type 0} → ℕ → List X → List X
front n xs = take (length xs - n) xs

-- the marks after these steps, newest first
abbrev pub marks : ℕ → List Step → List Bool
marks size [] = replicate size false
marks size (Wrote at len ∷ steps) = overlay (marks size steps) at (replicate len true)
marks size (Loosened at len ∷ steps) = overlay (marks size steps) at (replicate len true)
marks size (Synced ∷ steps) = replicate size false
marks size (Printed len ∷ steps) = marks size steps

-- the moments that are over after these steps, newest first: from what stands now each step is undone
abbrev pub past_of : ℕ → List Step → List ℕ → List ℕ → List ℕ → List Moment
past_of size [] bytes replaced text = []
past_of size (Wrote at len ∷ steps) bytes replaced text =
    past_of size steps (overlay bytes at (back len replaced)) (front len replaced) text
past_of size (Loosened at len ∷ steps) bytes replaced text = past_of size steps bytes replaced text
past_of size (Synced ∷ steps) bytes replaced text =
    past_of size steps bytes replaced text
    ++ record { bytes = bytes; loose = marks size steps; text = text; piece = [] } ∷ []
past_of size (Printed len ∷ steps) bytes replaced text =
    past_of size steps bytes replaced (front len text)
    ++ record { bytes = bytes; loose = marks size steps; text = front len text; piece = back len text } ∷ []

-- the reel after a piece was printed; where it is empty, nothing changed
abbrev pub reel_printed : Reel → List ℕ → Reel
reel_printed reel [] = reel
reel_printed reel (b ∷ went) = record {
  bytes = reel.bytes;
  loose = reel.loose;
  text = reel.text ++ b ∷ went;
  past = reel.past ++ record { bytes = reel.bytes; loose = reel.loose; text = reel.text; piece = b ∷ went } ∷ [];
  steps = reel.steps + 1;
  replaced = reel.replaced;
  text_room = reel.text_room;
  step_room = reel.step_room;
  replaced_room = reel.replaced_room;
  noted = reel.noted;
}

-- the reel after a range was made loose, noted or not
abbrev pub reel_loosened : Reel → Bool → ℕ → ℕ → Reel
reel_loosened reel unnoted at len = record {
  bytes = reel.bytes;
  loose = overlay reel.loose at (replicate len true);
  text = reel.text;
  past = reel.past;
  steps = if unnoted then reel.steps else reel.steps + 1;
  replaced = reel.replaced;
  text_room = reel.text_room;
  step_room = reel.step_room;
  replaced_room = reel.replaced_room;
  noted = if unnoted then false else reel.noted;
}

-- the reel after a write after which this stands in its range
abbrev pub reel_written : Reel → ℕ → List ℕ → Reel
reel_written reel at stands = record {
  bytes = overlay reel.bytes at stands;
  loose = overlay reel.loose at (replicate (length stands) true);
  text = reel.text;
  past = reel.past;
  steps = reel.steps + 1;
  replaced = reel.replaced + length stands;
  text_room = reel.text_room;
  step_room = reel.step_room;
  replaced_room = reel.replaced_room;
  noted = reel.noted;
}

-- some bytes were printed: the piece where it worked, else a prefix of it
pub record Says (worked : Bool) (piece : List ℕ) (old new : Reel) : Type 0 where
  pub went : List ℕ
  pub whole : worked ≡ true → went ≡ piece
  pub begun : worked ≡ false → (n : ℕ) × (went ≡ take n piece)
  pub reel : new ≡ reel_printed old went

-- a range was made loose, and holds the piece where it worked
pub record Lays (worked : Bool) (at : ℕ) (piece : List ℕ) (old new : Reel) : Type 0 where
  pub stands : List ℕ
  pub as_long : length stands ≡ length piece
  pub whole : worked ≡ true → stands ≡ piece
  pub bytes : new.bytes ≡ overlay old.bytes at stands
  pub loose : new.loose ≡ overlay old.loose at (replicate (length piece) true)
  pub text : new.text ≡ old.text
  pub past : new.past ≡ old.past
