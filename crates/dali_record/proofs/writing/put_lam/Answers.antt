use Rattle.std.proofs.Common.{◌++◌, List, ℕ, ◌∙◌, ap}
use Rattle.dali_record.specs.TreeText.{list_text, multiplier_text}
use Rattle.dali_record.proofs.PutLemmas.{on_ok}
use Rattle.dali_record.proofs.writing.put_lam.Goals as goal

pub returns : goal.returns
returns c =
    on_ok c.put_multipliers.result _ _ c.put_multipliers.ensures
    (λ put above lam. put ∙ ap (λ (ms : List (ℕ × ℕ)). c.args.out.now ++ list_text multiplier_text ms) (c.as_slice.ensures ∙ c.in_ok-changes.ensures above lam))
