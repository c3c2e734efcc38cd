use Rattle.std.proofs.Common.{sym, ◌∙◌}
use Rattle.std.specs.List.{list_all}
use Rattle.dali_record.specs.Multipliers.{behind, multiplier}
use Rattle.dali_record.specs.Reading.{differs}
use Rattle.dali_record.proofs.LamLemmas.{rises_told, made_rises}
use Rattle.dali_record.proofs.multipliers.made_of.Goals as goal

pub merged-requires-clause-changes : goal.merged-requires-clause-changes
merged-requires-clause-changes c = rises_told 0 c.args.changes.now (sym c.rise.ensures ∙ c.if-not-rise.false)

pub returns-clause-rises : goal.returns-clause-rises
returns-clause-rises c =
    made_rises (list_all (differs (multiplier c.args.above.now)) c.args.changes.now) (behind (multiplier c.args.above.now) c.args.changes.now) c.merged.result c.merged.ensures
