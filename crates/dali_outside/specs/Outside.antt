use Rattle.std.specs.Prelude.{◌≡◌, ℕ, ◌+◌, ◌-◌, ◌≤◌, ◌<◌, ◌^◌, min, Bool, true, false, List, [], ◌∷◌, ◌++◌, All, length, take, drop, replicate}

-- what a source is: the bytes left, and its count of faults
pub record Feed : Type 0 where
  pub left : List ℕ
  pub faults : ℕ

-- a site at a moment: what reads give, a mark for each loose byte, the text printed, and the piece that is being printed
pub record Moment : Type 0 where
  pub bytes : List ℕ
  pub loose : List Bool
  pub text : List ℕ
  pub piece : List ℕ

-- what a site is: its size, what reads give, a mark for each loose byte, the text printed so far, the moments that are
-- over, oldest first, its counts of disk faults and of print faults, and its number of syncs
pub record Sight : Type 0 where
  pub size : ℕ
  pub bytes : List ℕ
  pub loose : List Bool
  pub printed : List ℕ
  pub past : List Moment
  pub disk_faults : ℕ
  pub print_faults : ℕ
  pub syncs : ℕ

-- a count rose, or stands at u64's last value
abbrev pub Rose : ℕ → ℕ → Type 0
Rose before now = min (before + 1) (2 ^ 64 - 1) ≤ now

-- the first n bytes left moved into the front of a piece, and n is 0 for a piece with room only at the end
pub record Takes (into : List ℕ) (n : ℕ) (old new : Feed) : Type 0 where
  pub moved : old.left ≡ take n into ++ new.left
  pub ends : n ≡ 0 → 0 < length into → old.left ≡ []

-- a list with these items over those from a place on
abbrev pub overlay : {X : Type 0} → List X → ℕ → List X → List X
overlay xs at ys = take at xs ++ (ys ++ drop (at + length ys) xs)

-- a write: its range is loose, and holds the piece where it worked
pub record Writes (worked : Bool) (at : ℕ) (piece : List ℕ) (old new : Sight) : Type 0 where
  pub stands : List ℕ
  pub as_long : length stands ≡ length piece
  pub whole : worked ≡ true → stands ≡ piece
  pub bytes : new.bytes ≡ overlay old.bytes at stands
  pub loose : new.loose ≡ overlay old.loose at (replicate (length piece) true)

-- the moment now, with nothing being printed
abbrev pub now : Sight → Moment
now s = record { bytes = s.bytes; loose = s.loose; text = s.printed; piece = [] }

-- the moment at which this piece is being printed
abbrev pub printing : Sight → List ℕ → Moment
printing s piece = record { bytes = s.bytes; loose = s.loose; text = s.printed; piece = piece }

-- the moments that are over after these bytes were printed; where they are none, no moment ended
abbrev pub after_print : Sight → List ℕ → List Moment
after_print s [] = s.past
after_print s (b ∷ went) = s.past ++ printing s (b ∷ went) ∷ []

-- a sync that worked: nothing is loose, and a moment ended
pub record Syncs (old new : Sight) : Type 0 where
  pub bytes : new.bytes ≡ old.bytes
  pub loose : new.loose ≡ replicate (length old.loose) false
  pub printed : new.printed ≡ old.printed
  pub past : new.past ≡ old.past ++ now old ∷ []

-- a put that worked printed its whole piece, and one that failed a prefix of it
pub record Prints (worked : Bool) (piece : List ℕ) (old new : Sight) : Type 0 where
  pub went : List ℕ
  pub whole : worked ≡ true → went ≡ piece
  pub begun : worked ≡ false → (n : ℕ) × (went ≡ take n piece)
  pub printed : new.printed ≡ old.printed ++ went
  pub past : new.past ≡ after_print old went

-- the disk is as before
pub record SameDisk (old new : Sight) : Type 0 where
  pub bytes : new.bytes ≡ old.bytes
  pub loose : new.loose ≡ old.loose

-- the printed text is as before, and no moment ended
pub record SameText (old new : Sight) : Type 0 where
  pub printed : new.printed ≡ old.printed
  pub past : new.past ≡ old.past

-- every call keeps the size, and no count falls
pub record Goes (old new : Sight) : Type 0 where
  pub same_size : new.size ≡ old.size
  pub disk : old.disk_faults ≤ new.disk_faults
  pub print : old.print_faults ≤ new.print_faults

-- a site that tells has a byte and a mark for each place of its disk
pub record TellsAll (s : Sight) : Type 0 where
  pub bytes : length s.bytes ≡ s.size
  pub loose : length s.loose ≡ s.size
  pub small : All (λ b. b < 256) s.bytes
