use Rattle.std.proofs.Common.{ℕ, ◌<◌, List, length, sym, subst}
use Rattle.std.specs.List.{All}
use Rattle.dali_search.proofs.Starting.{places_rise}
use Rattle.dali_search.proofs.places.new_kept.Goals as goal

pub new-requires : goal.new-requires
new-requires c =
    subst (λ (xs : List ℕ). All (λ (j : ℕ). j < length c.args.problem.now.items) xs) (sym c.requires.places) (places_rise (length c.args.problem.now.items)).in_range
