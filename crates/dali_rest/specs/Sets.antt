use Rattle.std.specs.Prelude.{ℕ, ◌==◌, not, List}
use Rattle.std.specs.List.{filter}
use Rattle.dali_problem.specs.Feasible.{has}

-- s without place i
abbrev pub without : ℕ → List ℕ → List ℕ
without i s = filter (λ k. not (k == i)) s

-- those of the members that aren't in s
abbrev pub outside : List ℕ → List ℕ → List ℕ
outside members s = filter (λ j. not (has s j)) members
