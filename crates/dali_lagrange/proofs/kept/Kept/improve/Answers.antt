use Rattle.std.proofs.Common.{◌≡◌, pos, ◌≤ℤ◌, arith}
use Rattle.std.proofs.lemmas.Int.{ints}
use mir.Syntax.{w128}
use mir.Val.{to_z, of_z}
use Rattle.dali_lagrange.proofs.Downward.{height_falls}
use Rattle.dali_lagrange.proofs.kept.Kept.improve.Goals as goal

pub loop-self-smaller : goal.loop-self-smaller
loop-self-smaller c =
    let stored : to_z w128 (of_z w128 c.sum.result) ≡ c.sum.result = omega (arith, ints, c.sum.type_inv) in
    let most : pos 4096 ≤ℤ c.loop-self.self.total = omega (arith, ints, stored, c.sum.ensures.kept, c.loop-self-test.true) in
    height_falls c.pass.new.self.total c.loop-self.self.total most (c.pass.ensures.gained c.if-not-pass.false)
