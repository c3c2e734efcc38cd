use Rattle.std.proofs.Common.{◌∙◌, refl, sym, ap, subst}
use Rattle.std.specs.Prelude.{IsSome}
use Rattle.dali_base.specs.Readers.{spelled_moment}
use Rattle.dali_queue.proofs.cutoffs.last_moment.Goals as goal

pub unwrap-requires : goal.unwrap-requires
unfolding spelled_moment
unwrap-requires c = subst IsSome (sym (c.read_moment.ensures.exact ∙ ap spelled_moment c.as_slice.ensures)) refl
