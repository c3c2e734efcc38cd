use Rattle.std.proofs.Common.{◌≡◌, ◌++◌, length}
use Rattle.dali_line.specs.Reading.{pieces}
use Rattle.dali_line.proofs.pieces.Pieces.of.Given as goal

abbrev pub invariant-loop : goal.invariant-loop
invariant-loop l = (l.found ++ pieces l.rest ≡ pieces l.fn.line) × (length l.found ≡ l.counter)
