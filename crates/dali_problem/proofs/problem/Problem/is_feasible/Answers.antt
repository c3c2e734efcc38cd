use Rattle.std.proofs.Common.{◌≡◌, ℕ, ◌<◌, ◌∙◌, sym, ap, subst, ℤ, pos, ◌≤ℤ◌, List, length, get_or, arith}
use Rattle.std.proofs.lemmas.List.Elements.{All-from_get_or}
use Rattle.dali_problem.specs.Feasible.{booked}
use Rattle.dali_problem.proofs.problem.Problem.is_feasible.Goals as goal

pub returns-clause-answer : goal.returns-clause-answer
returns-clause-answer c =
    let size : length c.book.new.at ≡ length c.args.self.now.lines =
    omega (arith, c.book.auto.at, c.begin.auto.at, c.as_mut_slice-at.ensures.len, ap length c.as_mut_slice-at.ensures.value, c.sums.view_is, c.requires.sums) in
    let is : (l : ℕ) → l < length c.book.new.at → get_or c.book.new.at l (pos 0) ≡ booked c.args.self.now c.args.places.now l =
    λ l below. c.book.ensures l below ∙ ap (λ (s : List ℕ). booked c.args.self.now s l) c.as_slice.ensures in (
      λ told. record {
        covered = λ l below.
            let inside : l < length c.book.new.at = omega (arith, below, size) in
            subst (λ (z : ℤ). pos 0 ≤ℤ z) (is l inside) (c.none_negative.ensures.0 told l (pos 0) inside);
      },
      λ feasible. c.none_negative.ensures.1 (All-from_get_or (λ (z : ℤ). pos 0 ≤ℤ z) c.book.new.at (pos 0) (λ l below.
          subst (λ (z : ℤ). pos 0 ≤ℤ z) (sym (is l below)) (feasible.covered l (omega (arith, below, size))))),
    )
