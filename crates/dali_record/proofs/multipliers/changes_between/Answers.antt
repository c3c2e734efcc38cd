use Rattle.std.proofs.Common.{ℕ, sym, ap, ◌∙◌}
use Rattle.std.specs.Prelude.{Option, unwrap_or}
use Rattle.dali_record.specs.Multipliers.{multiplier}
use Rattle.dali_record.proofs.MergeLemmas.{merged_start, changes_turn, changes_end}
use Rattle.dali_record.proofs.multipliers.changes_between.Goals as goal

pub loop-line-init : goal.loop-line-init
loop-line-init c = λ above own. rw c.new-found.ensures (merged_start (multiplier c.args.above.now) (multiplier c.args.own.now) c.args.above.now c.args.own.now above own)

pub loop-line-preserved : goal.loop-line-preserved
loop-line-preserved c = λ above own.
    rw (c.taken-before.ensures.rest, c.taken-after.ensures.rest)
    (changes_turn c.args.above.now c.args.own.now c.loop-line.found c.loop-line.above_left.now c.loop-line.own_left.now c.push_change.new.found c.in-Some.line
    c.unwrap_or.result c.unwrap_or-in-Some.result (c.loop-line.invariant above own) (sym c.least_line.ensures ∙ c.in-Some.is)
    (c.unwrap_or.ensures ∙ ap (λ (o : Option ℕ). unwrap_or o 0) c.taken-before.ensures.value)
    (c.unwrap_or-in-Some.ensures ∙ ap (λ (o : Option ℕ). unwrap_or o 0) c.taken-after.ensures.value) c.in_ok-push_change.ensures)

pub returns : goal.returns
returns c = λ above own. changes_end c.args.above.now c.args.own.now c.loop-line.found c.loop-line.above_left.now c.loop-line.own_left.now (c.loop-line.invariant above own)
    (sym c.least_line.ensures ∙ c.in_default.is)
