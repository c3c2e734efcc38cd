use Rattle.std.proofs.Common.{◌≡◌, ◌∙◌, ℕ, ◌+◌, ◌*◌, ◌≤◌, List, [], ◌∷◌, ◌++◌, length, refl, sym, ap, length-append, arith}
use Rattle.std.proofs.lemmas.List.Sums.{sum_by-cons}
use Rattle.dali_entry.specs.EntryRecord.{EntryRecord}
use Rattle.dali_outside.specs.Outside.{Sight}
use Rattle.dali_register.specs.Standing.{cycle_count, cycles_in, Spends}

abbrev count : EntryRecord → ℕ
count e = cycle_count e.choice

pub cycles_append : (first second : List EntryRecord) → cycles_in (first ++ second) ≡ cycles_in first + cycles_in second
cycles_append [] second = omega arith
cycles_append (e ∷ first) second = omega (arith, cycles_append first second, sum_by-cons count e (first ++ second), sum_by-cons count e first)

-- one more append, of no matter what
pub spends_other : (before : Sight) (added more : List EntryRecord) (old new : Sight) → Spends 0 before added old → new.syncs ≤ old.syncs + 2 → Spends 1 before (added ++ more) new
spends_other before added more old new spends syncs = record {
  full = spends.full;
  others = spends.others + 1;
  each = omega (arith, spends.each, length-append added more);
  few = omega (arith, spends.few, cycles_append added more);
  syncs = omega (arith, spends.syncs, syncs);
}

-- one more append, of 64 entries
pub spends_full : (before : Sight) (added more : List EntryRecord) (old new : Sight) → Spends 0 before added old → 64 ≤ length more → new.syncs ≤ old.syncs + 2 → Spends 0 before (added ++ more) new
spends_full before added more old new spends long syncs = record {
  full = spends.full + 1;
  others = spends.others;
  each = omega (arith, spends.each, long, length-append added more);
  few = omega (arith, spends.few, cycles_append added more);
  syncs = omega (arith, spends.syncs, syncs);
}

-- one more append, of a cycle
pub spends_cycle : (before : Sight) (added : List EntryRecord) (e : EntryRecord) (old new : Sight) → cycle_count e.choice ≡ 1 → Spends 1 before added old → new.syncs ≤ old.syncs + 2 → Spends 0 before (added ++ e ∷ []) new
spends_cycle before added e old new cycle spends syncs = record {
  full = spends.full;
  others = spends.others + 1;
  each = omega (arith, spends.each, length-append added (e ∷ []));
  few = omega (arith, spends.few, cycles_append added (e ∷ []), cycle);
  syncs = omega (arith, spends.syncs, syncs);
}

-- no more syncs
pub spends_still : (more : ℕ) (before : Sight) (added : List EntryRecord) (old new : Sight) → Spends more before added old → new.syncs ≤ old.syncs → Spends more before added new
spends_still more before added old new spends syncs = record {
  full = spends.full;
  others = spends.others;
  each = spends.each;
  few = spends.few;
  syncs = omega (arith, spends.syncs, syncs);
}

-- a bound with one append more
pub spends_less : (before : Sight) (added : List EntryRecord) (s : Sight) → Spends 0 before added s → Spends 1 before added s
spends_less before added s spends = record { full = spends.full; others = spends.others; each = spends.each; few = omega (arith, spends.few); syncs = spends.syncs }
