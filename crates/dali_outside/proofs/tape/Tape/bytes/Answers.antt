use Rattle.std.proofs.Common.{◌∙◌, ◌<◌, All, ap, subst, rules}
use Rattle.dali_outside.proofs.Bytes.{small_items}
use Rattle.dali_outside.proofs.tape.Tape.bytes.Goals as goal

pub returns-clause-small : goal.returns-clause-small
returns-clause-small c =
    subst (All (λ b. b < 256)) (c.as_slice-bytes.ensures.value ∙ ap (λ r. r.bytes) c.self.view_is)
    (small_items c.as_slice-bytes.result.now (search rules))
