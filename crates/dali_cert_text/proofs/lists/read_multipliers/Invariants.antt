use Rattle.std.proofs.Common.{◌≡◌, length}
use Rattle.dali_cert_text.specs.Fields.{fields_in, rising_of, multiplier_of}
use Rattle.dali_cert_text.proofs.RisingRead.{with_front}
use Rattle.dali_cert_text.proofs.lists.read_multipliers.Given as goal

abbrev pub invariant-loop-field : goal.invariant-loop-field
invariant-loop-field l = with_front l.lam (rising_of (multiplier_of l.end) (λ m. m.0) l.low (fields_in l.rest)) ≡ rising_of (multiplier_of l.end) (λ m. m.0) 0 (fields_in l.fields)

abbrev pub decreases-loop-field : goal.decreases-loop-field
decreases-loop-field l = length l.rest
