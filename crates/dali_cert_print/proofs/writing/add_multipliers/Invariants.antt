use Rattle.std.proofs.Common.{◌≡◌, ◌∷◌, ◌++◌, take}
use Rattle.std.specs.List.{flat_map}
use Rattle.dali_cert_print.specs.Rows.{multiplier_field}
use Rattle.dali_cert_print.proofs.writing.add_multipliers.Given as goal

abbrev pub invariant-loop-multiplier : goal.invariant-loop-multiplier
invariant-loop-multiplier l = l.text ≡ l.initial.text ++ flat_map (λ m. 44 ∷ multiplier_field m) (take l.multiplier-index l.lam)
