use Rattle.std.proofs.Common.{◌≡◌, [], length}
use Rattle.dali_cert_text.specs.Stating.{least_first}
use Rattle.dali_cert_text.specs.Stages.{Setting, Parted, Goes}
use Rattle.dali_cert_text.proofs.reading.read_parts.Given as goal

abbrev pub invariant-rows : goal.invariant-rows
invariant-rows l = record {
  led : (s : Setting) → s.wide ≡ l.wide → s.problem ≡ l.problem → Goes (Parted s []) l.initial.unread (Parted s l.parts) l.unread;
  least : l.least ≡ least_first 0 l.parts;
}

abbrev pub decreases-rows : goal.decreases-rows
decreases-rows l = length l.unread.text
