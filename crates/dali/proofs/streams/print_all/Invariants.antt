use Rattle.std.proofs.Common.{◌≤◌, length, take}
use Rattle.std.specs.Io.KnownBytes.{Appends}
use Rattle.dali.proofs.streams.print_all.Given as goal

-- the first bytes of the piece were appended
abbrev pub invariant-loop : goal.invariant-loop
invariant-loop g l = (l.done ≤ length l.fn.piece) × Appends (g.W.Write.contents l.initial.writer) (g.W.Write.contents l.writer) (take l.done l.fn.piece)
