use Rattle.std.proofs.Common.{◌≡◌, ◌+◌, ◌*◌, ◌++◌}
use Rattle.std.specs.List.{flat_map, range_with_len}
use Rattle.dali_gen.specs.Draws.{state_after}
use Rattle.dali_gen.specs.Day.{text_of, group_size, group_lines}
use Rattle.dali_gen.proofs.group.add_groups.Given as goal

abbrev pub invariant-loop-group : goal.invariant-loop-group
invariant-loop-group l = record {
  text : l.text ≡ l.initial.text ++ text_of (flat_map (group_lines l.n) (range_with_len 0 l.group));
  state : l.draws ≡ state_after (30 + 5 * (group_size l.n * l.group)) l.n;
}
