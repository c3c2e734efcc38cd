use Rattle.std.proofs.Common.{◌≡◌, ◌≤◌, ◌+◌, ◌*◌, ◌-◌, length}
use Rattle.dali_line.specs.Limits.{most_file}
use Rattle.dali_line.specs.Lines.{reach}
use Rattle.dali_line.specs.Open.{Midway}
use Rattle.dali_line.proofs.scan.read_command.Given as goal

abbrev pub invariant-turns : goal.invariant-turns
invariant-turns g l = record {
  midway : Midway g.S.Source.tells (reach l.fn.block l.fn.taken (g.S.Source.feed l.fn.source)) l.line (reach l.block l.taken (g.S.Source.feed l.source));
  faults : (g.S.Source.feed l.fn.source).faults ≤ (g.S.Source.feed l.source).faults;
  quiet : (g.S.Source.feed l.source).faults ≡ (g.S.Source.feed l.fn.source).faults;
  counted : l.fn.taken + length l.block ≤ l.taken + length l.fn.block;
}

abbrev pub decreases-turns : goal.decreases-turns
decreases-turns g l = 2 * (most_file - l.taken) + length l.block
