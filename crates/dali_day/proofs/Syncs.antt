use Rattle.std.proofs.Common.{◌≡◌, ℕ, ◌+◌, ◌*◌, ◌/◌, ◌<◌, ◌≤◌, List, ◌++◌, length, arith}
use Rattle.std.proofs.Math.Nat.{le-div_iff_mul-le}
use Rattle.dali_entry.specs.EntryRecord.{EntryRecord}
use Rattle.dali_journal.specs.Limits.{most_payloads}
use Rattle.dali_outside.specs.Outside.{Sight}
use Rattle.dali_register.specs.Standing.{Spends}
use Rattle.dali_day.specs.DayRun.{FewSyncs}

-- what was spent on the added entries is few
pub few_syncs : (before : Sight) (found all added : List EntryRecord) (after : Sight) → all ≡ found ++ added → Spends 1 before added after → FewSyncs before found all after
few_syncs before found all added after parts spends =
    let appends : spends.full ≤ length added / most_payloads = (le-div_iff_mul-le {k = most_payloads} {x = spends.full} {y = length added} (omega arith)).1 (omega (arith, spends.each)) in
    record { added = added; parts = parts; syncs = omega (arith, spends.syncs, spends.few, appends) }
