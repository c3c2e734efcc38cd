use Rattle.std.proofs.Common.{◌≡◌, ◌∷◌, ◌++◌, take}
use Rattle.std.specs.List.{flat_map}
use Rattle.dali_cert_print.specs.Rows.{effect_field}
use Rattle.dali_cert_print.proofs.writing.add_effects.Given as goal

abbrev pub invariant-loop-effect : goal.invariant-loop-effect
invariant-loop-effect l = l.text ≡ l.initial.text ++ flat_map (λ e. 44 ∷ effect_field e) (take l.effect-index l.effects)
