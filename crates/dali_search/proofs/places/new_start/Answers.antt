use Rattle.std.proofs.Common.{ℕ, ◌<◌, List, length, sym, subst, arith}
use Rattle.std.specs.List.{All, Contains}
use Rattle.dali_search.proofs.Starting.{places_rise, places_length, places_at, is_start}
use Rattle.dali_search.proofs.places.new_start.Goals as goal

pub new-requires : goal.new-requires
new-requires c =
    subst (λ (xs : List ℕ). All (λ (j : ℕ). j < length c.args.problem.now.items) xs) (sym c.requires.places) (places_rise (length c.args.problem.now.items)).in_range

pub returns-clause-start : goal.returns-clause-start
returns-clause-start c =
    let n : ℕ = length c.args.problem.now.items in
    is_start c.args.problem.now c.in_ok-partial.partial.marks c.in_ok-partial.ensures.of.marks
    (λ j below. c.in_ok-partial.ensures.undecided.undecided j
    (subst (λ (xs : List ℕ). Contains xs j) (sym c.requires.places) (j, omega (arith, below, places_length n), places_at n j j below)))
