use Rattle.std.specs.Prelude.{◌≡◌, ℕ, List, [], ◌∷◌, ◌++◌, length}
use Rattle.dali_entry.specs.EntryRecord.{EntryRecord}
use Rattle.dali_outside.specs.Outside.{Sight}
use Rattle.dali_replica.specs.Frame.{IsOverlong}
use Rattle.dali_replica.specs.Judging.{IsOther, IsBad}
use Rattle.dali_replica.specs.Stream.{ShippedRecord, stream_text, StandFrom}
use Rattle.dali_upkeep.specs.Editions.{SpellsIn}
use Rattle.dali_follow.specs.Takes.{Takes, AreFirst}
use Rattle.dali_follow.specs.declared.end.FollowEnd.{FollowEnd}
use Rattle.dali_follow.specs.declared.end.FollowEnd.TheVariants.{Done, PrintFault, Damaged, OtherDay, BadFrame}

-- How far a stream can be taken: what the device spells at the start becomes this history by these frames.
pub record GoesTo (before : Sight) (frames : List ShippedRecord) (edition : ℕ) (history : List EntryRecord) : Type 0 where
  pub found : List EntryRecord
  pub spelled : SpellsIn edition found before.bytes
  pub takes : Takes edition found frames history

-- the frame behind them is another's, and this is its number
pub record IsOtherAt (stream : List ℕ) (before : Sight) (k : ℕ) : Type 0 where
  pub frames : List ShippedRecord
  pub f : ShippedRecord
  pub first : AreFirst stream (frames ++ f ∷ [])
  pub edition : ℕ
  pub history : List EntryRecord
  pub goes : GoesTo before frames edition history
  pub other : IsOther history f
  pub number : k ≡ f.number

-- or it is bad, and this is its place
pub record IsBadAt (stream : List ℕ) (before : Sight) (place : ℕ) : Type 0 where
  pub frames : List ShippedRecord
  pub f : ShippedRecord
  pub first : AreFirst stream (frames ++ f ∷ [])
  pub edition : ℕ
  pub history : List EntryRecord
  pub goes : GoesTo before frames edition history
  pub bad : IsBad edition history f
  pub place_is : place ≡ f.place

-- or the length of the next frame is past the limit
pub record IsOverlongAt (stream : List ℕ) (before : Sight) (place : ℕ) : Type 0 where
  pub frames : List ShippedRecord
  pub rest : List ℕ
  pub parts : stream ≡ stream_text frames ++ rest
  pub stand : StandFrom 0 frames
  pub overlong : IsOverlong rest
  pub edition : ℕ
  pub history : List EntryRecord
  pub goes : GoesTo before frames edition history
  pub place_is : place ≡ length (stream_text frames)

-- the answers where a frame is another's: its number, or a cause that comes before it; the stream isn't read to its end
abbrev pub AnswersOther : ℕ → FollowEnd → Type 0
AnswersOther k Done = ⊥
AnswersOther k PrintFault = ⊥
AnswersOther k (Damaged place why) = ⊥
AnswersOther k (OtherDay j) = j ≡ k
AnswersOther k (BadFrame place) = ⊥
AnswersOther k end = Unit {0}

-- and where a frame is bad or too long
abbrev pub AnswersBad : ℕ → FollowEnd → Type 0
AnswersBad place Done = ⊥
AnswersBad place PrintFault = ⊥
AnswersBad place (Damaged at why) = ⊥
AnswersBad place (OtherDay k) = ⊥
AnswersBad place (BadFrame at) = at ≡ place
AnswersBad place end = Unit {0}
