use Rattle.std.proofs.Common.{ℕ, ◌<◌, List, length, sym, subst}
use Rattle.std.specs.List.{All}
use Rattle.dali_restrict.proofs.Restricting.{changed_range}
use Rattle.dali_restrict.proofs.restriction.restrict.Goals as goal

pub add_lines-requires-clause-in_range : goal.add_lines-requires-clause-in_range
add_lines-requires-clause-in_range c = subst (λ (xs : List ℕ). All (λ (l : ℕ). l < length c.args.problem.now.lines) xs) (sym c.as_slice-2.ensures)
    (changed_range c.args.problem.now c.as_slice.result.now c.in_ok-lines.lines c.items-old.ensures.bounds
    (subst (λ (xs : List ℕ). All (λ (j : ℕ). j < length c.args.problem.now.items) xs) (sym c.as_slice.ensures) c.requires.in_range) c.in_ok-lines.ensures)
