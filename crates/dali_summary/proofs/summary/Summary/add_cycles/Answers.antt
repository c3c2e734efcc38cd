use Rattle.std.proofs.Common.{◌≡◌, ◌∙◌, ◌++◌, List, ℕ, length, take, sym, ap, append_assoc, append-nil}
use Rattle.std.specs.List.{flat_map}
use Rattle.std.proofs.lemmas.List.{take_all}
use Rattle.dali_summary.specs.declared.figures.CycleFigures.{CycleFigures}
use Rattle.dali_summary.specs.Figures.{figures_row}
use Rattle.dali_summary.specs.Tally.{Tally}
use Rattle.dali_summary.proofs.Texts.{rows_step}
use Rattle.dali_summary.proofs.summary.Summary.add_cycles.Goals as goal

pub loop-cycle-init : goal.loop-cycle-init
loop-cycle-init c = sym (append-nil c.args.text.now)

pub loop-cycle-preserved : goal.loop-cycle-preserved
loop-cycle-preserved c =
    rows_step c.as_slice-cycle-items.result.now c.loop-cycle.cycle-index _ c.args.text.now c.loop-cycle.text c.add_cycle.new.text c.loop-cycle-test.true c.loop-cycle.invariant c.in_ok-add_cycle.ensures

pub returns : goal.returns
returns c =
    let cycles : c.as_slice-cycle-items.result.now ≡ c.args.self.now.cycles = c.as_slice-cycle-items.ensures ∙ ap (λ (t : Tally). t.cycles) c.self.view_is in
    c.loop-cycle.invariant
    ∙ ap (λ (fs : List CycleFigures). c.args.text.now ++ flat_map figures_row fs) (take_all c.loop-cycle.cycle-index c.as_slice-cycle-items.result.now c.loop-cycle-test.false ∙ cycles)
