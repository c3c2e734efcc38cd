use Rattle.std.proofs.Common.{◌≡◌, ◌∙◌, ℕ, sym, ap, arith}
use Rattle.std.proofs.lemmas.Fmt.{decimal_injective}
use Rattle.dali_outside.specs.Memory.{Board}
use Rattle.dali_desk.proofs.Sizes.{third}
use Rattle.dali_desk.proofs.tests.init.Goals as goal

pub run-status-requires : goal.run-status-requires
run-status-requires c = record {
  size = λ size job.
      ap (λ (b : Board). b.sight.size) c.in_ok-site.ensures
      ∙ decimal_injective 64 size (omega arith) (omega (arith, job.4)) (ap third (sym c.in_ok-words.ensures ∙ job.5));
}
