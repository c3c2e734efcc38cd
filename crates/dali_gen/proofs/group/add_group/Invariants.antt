use Rattle.std.proofs.Common.{◌≡◌, ◌+◌, ◌*◌, ◌++◌, map}
use Rattle.std.specs.List.{range_with_len}
use Rattle.dali_gen.specs.Draws.{state_after}
use Rattle.dali_gen.specs.Day.{text_of, hour_of, group_size, instruction_line}
use Rattle.dali_gen.proofs.group.add_group.Given as goal

abbrev pub invariant-loop-place : goal.invariant-loop-place
invariant-loop-place l = record {
  text : l.text ≡ l.initial.text ++ text_of (map (instruction_line l.n (hour_of l.group)) (range_with_len (group_size l.n * l.group) l.place));
  state : l.draws ≡ state_after (30 + 5 * (group_size l.n * l.group + l.place)) l.n;
}
