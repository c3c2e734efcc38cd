use Rattle.std.proofs.Common.{◌≡◌, ◌∙◌, ℕ, Bool, List, [], ◌++◌, refl, sym, ap, arith, append_assoc}
use Rattle.std.specs.Prelude.{IsTrue}
use Rattle.dali_outside.specs.Outside.{Feed}
use Rattle.dali_desk.specs.Input.{Gathers}

pub gathers_none : (told : Bool) (most : ℕ) (feed : Feed) → Gathers told most feed [] feed
gathers_none told most feed = record { moved = λ t. refl; within = omega arith; quiet = refl }

-- the bytes of one more take
pub moves_more : (told : Bool) (most : ℕ) (old mid new : Feed) (bytes more : List ℕ) → Gathers told most old bytes mid → (IsTrue told → mid.left ≡ more ++ new.left) →
    IsTrue told → old.left ≡ (bytes ++ more) ++ new.left
moves_more told most old mid new bytes more so_far moved t =
    so_far.moved t ∙ ap (λ xs. bytes ++ xs) (moved t) ∙ sym (append_assoc bytes more new.left)
