use Rattle.std.proofs.Common.{◌≡◌, length}
use Rattle.dali_cert_text.specs.Fields.{fields_in, rising_of, effect_of}
use Rattle.dali_cert_text.proofs.RisingRead.{with_front}
use Rattle.dali_cert_text.proofs.lists.read_effects.Given as goal

abbrev pub invariant-loop-field : goal.invariant-loop-field
invariant-loop-field l = with_front l.effects (rising_of (effect_of l.end) (λ e. e.line) l.low (fields_in l.rest)) ≡ rising_of (effect_of l.end) (λ e. e.line) 0 (fields_in l.fields)

abbrev pub decreases-loop-field : goal.decreases-loop-field
decreases-loop-field l = length l.rest
