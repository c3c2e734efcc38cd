use Rattle.std.proofs.Common.{◌≡◌, pos, true, false, ◌∙◌, get_or, ap, sym, arith}
use Rattle.std.specs.Int.Signed.{lt_z, le_z}
use Rattle.std.proofs.lemmas.Int.{ints}
use Rattle.std.proofs.lemmas.Bool.Decides.{same_from_decides}
use mir.Syntax.{w128}
use mir.Val.{to_z, of_z}
use Rattle.dali_lagrange.specs.Bound.{sum_of}
use Rattle.dali_lagrange.proofs.SettledLaws.{le_decides, still_decides, settled_above, settled_small, settled_still}
use Rattle.dali_lagrange.proofs.kept.Kept.is_settled.Goals as goal

pub returns-else-is_at_most : goal.returns-else-is_at_most
returns-else-is_at_most c =
    let stored_sum : to_z w128 (of_z w128 c.sum.result) ≡ c.sum.result = omega (arith, ints, c.sum.type_inv) in
    let stored_zero : to_z w128 (of_z w128 c.zero_sum.result) ≡ c.zero_sum.result = omega (arith, ints, c.zero_sum.type_inv) in
    let same : c.is_at_most.result ≡ le_z (to_z w128 (of_z w128 c.sum.result)) (to_z w128 (of_z w128 c.zero_sum.result)) =
    same_from_decides c.is_at_most.result _ c.is_at_most.ensures (le_decides (to_z w128 (of_z w128 c.sum.result)) (to_z w128 (of_z w128 c.zero_sum.result))) in
    let is : c.is_at_most.result ≡ le_z (sum_of c.args.problem.now c.args.self.now.marks (λ i. get_or c.args.self.now.multipliers i 0)) (sum_of c.args.problem.now c.args.self.now.marks (λ _. 0)) =
    same ∙ ap (λ z. le_z z (to_z w128 (of_z w128 c.zero_sum.result))) (stored_sum ∙ c.sum.ensures.exact c.args.problem.now c.requires)
    ∙ ap (le_z (sum_of c.args.problem.now c.args.self.now.marks (λ i. get_or c.args.self.now.multipliers i 0))) (stored_zero ∙ c.zero_sum.ensures.exact) in
    let told : c.is_at_most.result ≡ false = c.if-is_at_most.false in
    told ∙ sym (settled_above c.args.problem.now c.args.self.now.marks (λ i. get_or c.args.self.now.multipliers i 0) (sym is ∙ told))

pub returns-then-sum-lt-SETTLED_BELOW : goal.returns-then-sum-lt-SETTLED_BELOW
returns-then-sum-lt-SETTLED_BELOW c =
    let stored_sum : to_z w128 (of_z w128 c.sum.result) ≡ c.sum.result = omega (arith, ints, c.sum.type_inv) in
    let stored_zero : to_z w128 (of_z w128 c.zero_sum.result) ≡ c.zero_sum.result = omega (arith, ints, c.zero_sum.type_inv) in
    let stored_again : to_z w128 (of_z w128 c.sum-then-is_at_most.result) ≡ c.sum-then-is_at_most.result = omega (arith, ints, c.sum-then-is_at_most.type_inv) in
    let same : c.is_at_most.result ≡ le_z (to_z w128 (of_z w128 c.sum.result)) (to_z w128 (of_z w128 c.zero_sum.result)) =
    same_from_decides c.is_at_most.result _ c.is_at_most.ensures (le_decides (to_z w128 (of_z w128 c.sum.result)) (to_z w128 (of_z w128 c.zero_sum.result))) in
    let is : c.is_at_most.result ≡ le_z (sum_of c.args.problem.now c.args.self.now.marks (λ i. get_or c.args.self.now.multipliers i 0)) (sum_of c.args.problem.now c.args.self.now.marks (λ _. 0)) =
    same ∙ ap (λ z. le_z z (to_z w128 (of_z w128 c.zero_sum.result))) (stored_sum ∙ c.sum.ensures.exact c.args.problem.now c.requires)
    ∙ ap (le_z (sum_of c.args.problem.now c.args.self.now.marks (λ i. get_or c.args.self.now.multipliers i 0))) (stored_zero ∙ c.zero_sum.ensures.exact) in
    let small : lt_z (sum_of c.args.problem.now c.args.self.now.marks (λ i. get_or c.args.self.now.multipliers i 0)) (pos 4096) ≡ true =
    ap (λ z. lt_z z (pos 4096)) (sym (stored_again ∙ c.sum-then-is_at_most.ensures.exact c.args.problem.now c.requires)) ∙ c.if-sum-lt-SETTLED_BELOW.true in
    c.if-sum-lt-SETTLED_BELOW.true
    ∙ sym (settled_small c.args.problem.now c.args.self.now.marks (λ i. get_or c.args.self.now.multipliers i 0) (sym is ∙ c.if-is_at_most.true) small)

pub returns-else-sum-lt-SETTLED_BELOW : goal.returns-else-sum-lt-SETTLED_BELOW
returns-else-sum-lt-SETTLED_BELOW c =
    let stored_sum : to_z w128 (of_z w128 c.sum.result) ≡ c.sum.result = omega (arith, ints, c.sum.type_inv) in
    let stored_zero : to_z w128 (of_z w128 c.zero_sum.result) ≡ c.zero_sum.result = omega (arith, ints, c.zero_sum.type_inv) in
    let stored_again : to_z w128 (of_z w128 c.sum-then-is_at_most.result) ≡ c.sum-then-is_at_most.result = omega (arith, ints, c.sum-then-is_at_most.type_inv) in
    let same : c.is_at_most.result ≡ le_z (to_z w128 (of_z w128 c.sum.result)) (to_z w128 (of_z w128 c.zero_sum.result)) =
    same_from_decides c.is_at_most.result _ c.is_at_most.ensures (le_decides (to_z w128 (of_z w128 c.sum.result)) (to_z w128 (of_z w128 c.zero_sum.result))) in
    let is : c.is_at_most.result ≡ le_z (sum_of c.args.problem.now c.args.self.now.marks (λ i. get_or c.args.self.now.multipliers i 0)) (sum_of c.args.problem.now c.args.self.now.marks (λ _. 0)) =
    same ∙ ap (λ z. le_z z (to_z w128 (of_z w128 c.zero_sum.result))) (stored_sum ∙ c.sum.ensures.exact c.args.problem.now c.requires)
    ∙ ap (le_z (sum_of c.args.problem.now c.args.self.now.marks (λ i. get_or c.args.self.now.multipliers i 0))) (stored_zero ∙ c.zero_sum.ensures.exact) in
    let big : lt_z (sum_of c.args.problem.now c.args.self.now.marks (λ i. get_or c.args.self.now.multipliers i 0)) (pos 4096) ≡ false =
    ap (λ z. lt_z z (pos 4096)) (sym (stored_again ∙ c.sum-then-is_at_most.ensures.exact c.args.problem.now c.requires)) ∙ c.if-sum-lt-SETTLED_BELOW.false in
    same_from_decides c.is_still.result _ c.is_still.ensures
    (still_decides c.args.problem.now c.args.self.now.marks c.args.self.now.multipliers c.args.self.now.total c.requires.multipliers c.requires.total)
    ∙ sym (settled_still c.args.problem.now c.args.self.now.marks (λ i. get_or c.args.self.now.multipliers i 0) (sym is ∙ c.if-is_at_most.true) big)
