use Rattle.std.proofs.Common.{◌∙◌, ◌++◌, List, ℕ, ap, append_assoc}
use Rattle.std.specs.Int.{w32, w64, to_be_bytes}
use Rattle.std.proofs.lemmas.Result.{IfOk-equal}
use Rattle.dali_replica.specs.Frame.{head_text}
use Rattle.dali_replica.proofs.shipping.put_head.Goals as goal

pub returns : goal.returns
unfolding head_text
returns c =
    IfOk-equal c.put_size.result c.put_size.new.frame (c.put_number.new.frame ++ to_be_bytes w32 c.args.size) (c.args.frame.now ++ (to_be_bytes w64 c.args.number ++ to_be_bytes w32 c.args.size))
    c.put_size.ensures
    (ap (λ (bytes : List ℕ). bytes ++ to_be_bytes w32 c.args.size) c.in_ok-put_number.ensures ∙ append_assoc c.args.frame.now (to_be_bytes w64 c.args.number) (to_be_bytes w32 c.args.size))
