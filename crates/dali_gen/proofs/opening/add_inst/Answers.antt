use Rattle.std.proofs.Common.{◌≡◌, ◌∷◌, [], ◌∙◌, ◌++◌, ℕ, ap}
use Rattle.std.specs.Prelude.{codes, decimal}
use Rattle.dali_gen.specs.Instructions.{code_name}
use Rattle.dali_gen.specs.Day.{price as price_of}
use Rattle.dali_gen.proofs.Texts.{four_added, on_ok}
use Rattle.dali_gen.proofs.opening.add_inst.Goals as goal

pub returns : goal.returns
returns c =
    let same : c.from.result ≡ price_of c.args.n c.args.code = cc in
    on_ok c.push.result
    (four_added c.args.text.now c.add.new.self c.add_code.new.text c.add_number.new.text c.push.new.self
    (codes "080000,INST,") (code_name c.args.code) (44 ∷ decimal (price_of c.args.n c.args.code)) (10 ∷ [])
    c.in_ok-add.ensures.ok c.in_ok-add_code.ensures
    (c.in_ok-add_number.ensures ∙ ap (λ (p : ℕ). c.add_code.new.text ++ 44 ∷ decimal p) same))
    c.push.ensures.ok
