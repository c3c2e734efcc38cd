use Rattle.std.proofs.Common.{◌∙◌, subst}
use Rattle.dali_desk.specs.declared.job.Job.TheVariants.{Init}
use Rattle.dali_desk.specs.Words.{IsJob}
use Rattle.dali_desk.proofs.Sizes.{one_size}
use Rattle.dali.proofs.site_of.Goals as goal

pub returns-in-Ok-Init : goal.returns-in-Ok-Init
returns-in-Ok-Init c size job =
    c.new.ensures.size ∙ one_size c.args.words.now c.in-Ok-Init.size size (subst (IsJob c.args.words.now) c.in-Ok-Init.field-0-is c.in-Ok-Init.ensures.ok) job

pub returns-in-Err : goal.returns-in-Err
returns-in-Err c size job = absurd (c.in-Err.ensures.usage (Init size) job)
