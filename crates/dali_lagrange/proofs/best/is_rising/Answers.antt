use Rattle.std.proofs.Common.{◌≡◌, ℕ, ◌+◌, List, get_or, set, ap, ◌∙◌, arith}
use Rattle.std.proofs.lemmas.Int.{ints}
use mir.Syntax.{w128}
use mir.Val.{to_z, of_z}
use Rattle.dali_lagrange.specs.Bound.{sum_of}
use Rattle.dali_lagrange.specs.Best.{sum_with}
use Rattle.dali_lagrange.proofs.best.is_rising.Goals as goal

pub returns : goal.returns
unfolding sum_with
returns c =
    let stored_here : to_z w128 (of_z w128 c.sum_at-here.result) ≡ c.sum_at-here.result = omega (arith, ints, c.sum_at-here.type_inv) in
    let stored_next : to_z w128 (of_z w128 c.sum_at-next.result) ≡ c.sum_at-next.result = omega (arith, ints, c.sum_at-next.type_inv) in
    let here : c.sum_at-here.result ≡ sum_of c.args.problem.now c.args.partial.now.marks (λ k. get_or (set c.args.point.now c.args.line c.args.at) k 0) =
    c.sum_at-here.ensures.exact ∙ ap (λ (ms : List ℕ). sum_of c.args.problem.now c.args.partial.now.marks (λ k. get_or ms k 0)) c.with.ensures in
    let next : c.sum_at-next.result ≡ sum_of c.args.problem.now c.args.partial.now.marks (λ k. get_or (set c.args.point.now c.args.line (c.args.at + 1)) k 0) =
    c.sum_at-next.ensures.exact ∙ ap (λ (ms : List ℕ). sum_of c.args.problem.now c.args.partial.now.marks (λ k. get_or ms k 0)) c.with-2.ensures in (
      λ told. let le = c.is_at_most.ensures.0 told in omega (arith, ints, le, here, next, stored_here, stored_next),
      λ le. c.is_at_most.ensures.1 (omega (arith, ints, le, here, next, stored_here, stored_next)),
    )
