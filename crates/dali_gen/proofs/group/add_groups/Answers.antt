use Rattle.std.proofs.Common.{◌≡◌, ◌∙◌, ℕ, ◌+◌, ◌*◌, sym, ap, arith}
use Rattle.std.proofs.lemmas.List.{append-nil}
use Rattle.dali_gen.specs.Draws.{state_after}
use Rattle.dali_gen.specs.Day.{group_size, group_lines, all_group_lines}
use Rattle.dali_gen.proofs.Texts.{groups_step, groups_told}
use Rattle.dali_gen.proofs.group.add_groups.Goals as goal

pub loop-group-init : goal.loop-group-init
loop-group-init c =
    let none : 30 ≡ 30 + 5 * (group_size c.args.n * 0) = omega arith in
    record {
      text = sym (append-nil c.args.text.now);
      state = c.requires.state ∙ ap (λ (k : ℕ). state_after k c.args.n) none;
    }

pub add_group-requires-clause-state : goal.add_group-requires-clause-state
add_group-requires-clause-state c = c.loop-group.invariant.state

pub loop-group-preserved : goal.loop-group-preserved
loop-group-preserved c = record {
  text = groups_step (group_lines c.args.n) c.loop-group.group c.args.text.now c.loop-group.text c.add_group.new.text c.loop-group.invariant.text c.in_ok-add_group.ensures.text;
  state = c.in_ok-add_group.ensures.state;
}

pub returns : goal.returns
unfolding all_group_lines
returns c =
    let all : c.loop-group.group ≡ 4 = omega (arith, c.loop-group.auto, c.loop-group-test.false) in
    groups_told (group_lines c.args.n) c.loop-group.group 4 c.args.text.now c.loop-group.text all c.loop-group.invariant.text
