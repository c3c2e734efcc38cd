use Rattle.std.proofs.Common.{◌≡◌, ap, ◌∙◌, arith}
use Rattle.std.specs.Int.RustNames.{unsigned_abs}
use Rattle.std.proofs.lemmas.Int.{ints}
use mir.Val.{to_z, of_z}
use mir.Syntax.{w128}
use Rattle.dali_search.proofs.nearest.size.Goals as goal

pub returns : goal.returns
returns c p of =
    let stored : to_z w128 (of_z w128 c.reduced.result) ≡ c.reduced.result = omega (arith, ints, c.reduced.type_inv) in
    c.unsigned_abs.ensures.value ∙ ap unsigned_abs (stored ∙ c.reduced.ensures.exact p of)
