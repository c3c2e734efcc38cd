use Rattle.std.proofs.Common.{◌∙◌, [], ◌∷◌, ◌++◌, ap}
use Rattle.dali_journal.specs.Frames.{open_records}
use Rattle.dali_journal.proofs.GroupLemmas.{frames_are, frames_long}
use Rattle.dali_journal.proofs.group.Group.frames.Goals as goal

pub returns-clause-frames : goal.returns-clause-frames
returns-clause-frames c =
    frames_are c.args.self.now c.deref.result.now c.requires (c.deref.ensures.value ∙ c.self.invariant.0 ∙ ap (λ l. open_records l ++ 0 ∷ []) c.self.view_is)

pub returns-clause-length : goal.returns-clause-length
returns-clause-length c =
    frames_long c.args.self.now c.deref.result.now (c.deref.ensures.value ∙ c.self.invariant.0 ∙ ap (λ l. open_records l ++ 0 ∷ []) c.self.view_is)
