use Rattle.std.specs.Prelude.{◌≡◌, ℕ, List, ◌++◌}
use Rattle.dali_outside.specs.Outside.{Sight}

-- this list is a front of the whole one
pub record IsFront {X : Type 0} (front whole : List X) : Type 0 where
  pub rest : List X
  pub parts : whole ≡ front ++ rest

-- what was printed in the call is a front of this text
pub record PrintsFront (text : List ℕ) (old new : Sight) : Type 0 where
  pub went : List ℕ
  pub printed : new.printed ≡ old.printed ++ went
  pub front : IsFront went text
