use Rattle.std.proofs.Common.{◌≡◌, ℕ, ◌<◌, true, get_or}
use Rattle.dali_tree.specs.declared.choice.Part.{Part}
use Rattle.dali_check.specs.Room.{IsFor}
use Rattle.dali_check.specs.Proves.{proves_part}
use Rattle.dali_check.proofs.allowing.first_unproved.Given as goal

abbrev pub invariant-loop-at : goal.invariant-loop-at
invariant-loop-at l = record {
  made : IsFor l.problem l.scratch;
  proved : (k : ℕ) (d : Part) → k < l.at → proves_part l.problem (get_or l.parts k d) ≡ true;
}
