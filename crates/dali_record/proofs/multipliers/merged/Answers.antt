use Rattle.std.proofs.Common.{ℕ, sym, ap, ◌∙◌}
use Rattle.std.specs.Prelude.{Option, unwrap_or}
use Rattle.dali_record.specs.Multipliers.{behind, multiplier, list_of}
use Rattle.dali_record.specs.Merging.{own_of}
use Rattle.dali_record.proofs.MergeLemmas.{making_start, making_turn, making_fails, making_end}
use Rattle.dali_record.proofs.multipliers.merged.Goals as goal

pub loop-line-init : goal.loop-line-init
loop-line-init c = rw c.new-lam.ensures (making_start c.args.above.now c.args.changes.now c.requires.above c.requires.changes)

pub returns-in_default-own_multiplier : goal.returns-in_default-own_multiplier
returns-in_default-own_multiplier c =
    making_fails c.args.above.now c.args.changes.now c.loop-line.lam c.loop-line.above_left.now c.loop-line.changes_left.now c.in-Some.line c.unwrap_or.result
    (list_of (behind (multiplier c.args.above.now) c.args.changes.now)) c.loop-line.invariant (sym c.least_line.ensures ∙ c.in-Some.is)
    (c.unwrap_or.ensures ∙ ap (λ (o : Option ℕ). unwrap_or o 0) c.taken-before.ensures.value)
    (ap (λ (o : Option ℕ). own_of c.unwrap_or.result o) (sym c.taken-change.ensures.value) ∙ sym c.own_multiplier.ensures ∙ c.in_default-own_multiplier.is)

pub loop-line-preserved : goal.loop-line-preserved
loop-line-preserved c =
    rw (c.taken-before.ensures.rest, c.taken-change.ensures.rest)
    (making_turn c.args.above.now c.args.changes.now c.loop-line.lam c.loop-line.above_left.now c.loop-line.changes_left.now c.push_change.new.found c.in-Some.line
    c.unwrap_or.result c.in-Some-own_multiplier.own c.loop-line.invariant (sym c.least_line.ensures ∙ c.in-Some.is)
    (c.unwrap_or.ensures ∙ ap (λ (o : Option ℕ). unwrap_or o 0) c.taken-before.ensures.value)
    (ap (λ (o : Option ℕ). own_of c.unwrap_or.result o) (sym c.taken-change.ensures.value) ∙ sym c.own_multiplier.ensures ∙ c.in-Some-own_multiplier.is) c.in_ok-push_change.ensures)

pub returns : goal.returns
returns c = making_end c.args.above.now c.args.changes.now c.loop-line.lam c.loop-line.above_left.now c.loop-line.changes_left.now c.loop-line.invariant
    (sym c.least_line.ensures ∙ c.in_default.is)
