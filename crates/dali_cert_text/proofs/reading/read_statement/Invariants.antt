use Rattle.std.proofs.Common.{ℕ, length}
use Rattle.dali_cert_text.specs.Stating.{no_lines}
use Rattle.dali_cert_text.specs.Stages.{Stated, Goes}
use Rattle.dali_cert_text.proofs.reading.read_statement.Given as goal

abbrev pub invariant-rows : goal.invariant-rows
invariant-rows l = (budget : ℕ) → Goes (Stated l.wide budget no_lines) l.initial.unread (Stated l.wide budget l.statement) l.unread

abbrev pub decreases-rows : goal.decreases-rows
decreases-rows l = length l.unread.text
