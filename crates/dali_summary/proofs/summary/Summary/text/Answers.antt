use Rattle.std.proofs.Common.{◌≡◌, ◌∙◌, ◌++◌, ℕ, ap}
use Rattle.std.specs.Prelude.{codes}
use Rattle.dali_summary.specs.Tally.{Tally}
use Rattle.dali_summary.specs.Summary.{number_row}
use Rattle.dali_summary.proofs.Texts.{summary_told}
use Rattle.dali_summary.proofs.summary.Summary.text.Goals as goal

pub returns : goal.returns
returns c answers is =
    let commands : c.self.inside.commands ≡ c.args.self.now.commands = ap (λ (t : Tally). t.commands) c.self.view_is in
    let refused : c.self.inside.refused ≡ c.args.self.now.refused = ap (λ (t : Tally). t.refused) c.self.view_is in
    summary_told c.args.n answers c.args.waiting c.args.postings c.args.self.now
    c.new-text.result c.add_count.new.text c.add_count-2.new.text c.add_count-3.new.text c.add_cycles.new.text c.add_count-4.new.text c.add_count-5.new.text
    is c.new-text.ensures c.in_ok-add_count.ensures
    (c.in_ok-add_count-2.ensures ∙ ap (λ (k : ℕ). c.add_count.new.text ++ number_row (codes "COMMANDS") k) commands)
    (c.in_ok-add_count-3.ensures ∙ ap (λ (k : ℕ). c.add_count-2.new.text ++ number_row (codes "REFUSED") k) refused)
    c.in_ok-add_cycles.ensures
    (c.in_ok-add_count-4.ensures ∙ ap (λ (k : ℕ). c.add_cycles.new.text ++ number_row (codes "WAITING") k) c.from.ensures)
    c.in_ok-add_count-5.ensures
