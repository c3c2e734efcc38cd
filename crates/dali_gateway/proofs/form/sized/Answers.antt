use Rattle.std.proofs.Common.{◌<◌, arith}
use Rattle.std.proofs.lemmas.List.Elements.{All-from_get_or, All-take, All-same}
use Rattle.dali_gateway.specs.Language.{Ended, Tail}
use Rattle.dali_gateway.proofs.Leaving.{leaves_sized}
use Rattle.dali_gateway.proofs.Tails.{some_ended, some_tail}
use Rattle.dali_gateway.proofs.form.sized.Goals as goal

pub returns-then-bytes-size-clause-form : goal.returns-then-bytes-size-clause-form
returns-then-bytes-size-clause-form c = λ k n some.
    leaves_sized c.args.size c.args.bytes.now (Ended (Tail k n)) (All-from_get_or (λ b. b < 256) c.args.bytes.now 0 (λ i within. omega (arith, c.type_inv.bytes i)))
    (omega arith) (some_ended (Tail k n) (some_tail k n some))

pub returns-clause-small : goal.returns-clause-small
returns-clause-small c =
    All-same (λ b. b < 256) _ _ c.split_at.ensures.front
    (All-take (λ b. b < 256) c.args.size c.args.bytes.now (All-from_get_or (λ b. b < 256) c.args.bytes.now 0 (λ i within. omega (arith, c.type_inv.bytes i))))
