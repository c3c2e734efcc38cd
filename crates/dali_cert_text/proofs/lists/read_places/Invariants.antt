use Rattle.std.proofs.Common.{◌≡◌, length}
use Rattle.dali_cert_text.specs.Fields.{fields_in, rising_of, number_below}
use Rattle.dali_cert_text.proofs.RisingRead.{with_front}
use Rattle.dali_cert_text.proofs.lists.read_places.Given as goal

abbrev pub invariant-loop-field : goal.invariant-loop-field
invariant-loop-field l = with_front l.places (rising_of (number_below l.end) (λ p. p) l.low (fields_in l.rest)) ≡ rising_of (number_below l.end) (λ p. p) 0 (fields_in l.fields)

abbrev pub decreases-loop-field : goal.decreases-loop-field
decreases-loop-field l = length l.rest
