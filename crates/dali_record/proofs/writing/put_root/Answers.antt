use Rattle.dali_record.proofs.PutLemmas.{on_ok}
use Rattle.dali_record.proofs.writing.put_root.Goals as goal

pub returns : goal.returns
returns c = on_ok c.put_tree.result _ _ c.put_tree.ensures (λ put. put tt c.requires)
