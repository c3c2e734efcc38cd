use Rattle.std.proofs.Common.{[], ◌∷◌, subst, arith}
use Rattle.dali_journal.specs.Frames.{payload_of, AreFrames, AreShort}
use Rattle.dali_journal.proofs.GroupLemmas.{frame_are, framed_short}
use Rattle.dali_journal.proofs.sealed.Sealed.bytes.Goals as goal

pub returns-clause-frame : goal.returns-clause-frame
returns-clause-frame c =
    subst (λ bs. AreFrames (payload_of bs ∷ []) bs) c.self.view_is (frame_are (payload_of c.self.inside.bytes) c.self.inside.bytes c.self.invariant.0)

pub returns-clause-short : goal.returns-clause-short
returns-clause-short c =
    subst (λ bs. AreShort (payload_of bs ∷ [])) c.self.view_is (framed_short c.self.inside.bytes c.self.invariant.0 (omega (arith, c.self.invariant.1)))
