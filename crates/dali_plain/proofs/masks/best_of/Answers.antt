use Rattle.std.proofs.Common.{◌≡◌, inl, inr, ℕ, ◌*◌, ◌%◌, ◌≤◌, ◌^◌, ap, ◌∙◌, subst, arith}
use Rattle.std.proofs.lemmas.Bool.{cases_lt}
use Rattle.dali_problem.specs.Feasible.{IsFeasible, value_of}
use Rattle.dali_plain.specs.Masks.{places_of}
use Rattle.dali_plain.proofs.MaskLaws.{masks_fit, greatest_of}
use Rattle.dali_plain.proofs.masks.best_of.Goals as goal

pub loop-mask-preserved : goal.loop-mask-preserved
loop-mask-preserved c =
    let p = c.args.problem.now in
    record {
      reached = c.raised-best.ensures.reached;
      most = λ m below feasible. elim (cases_lt m c.loop-mask.mask) as (λ _. value_of p (places_of p m) ≤ c.raised-best.result) [
        | inl before ↦ omega (arith, c.loop-mask.invariant.most m before feasible, c.raised-best.ensures.not_below)
        | inr at ↦
            let is : c.loop-mask.mask ≡ m = omega (arith, below, at) in
            let covered = subst (λ (k : ℕ). IsFeasible p (places_of p k) → value_of p (places_of p k) ≤ c.raised-best.result) is c.raised-best.ensures.covered in
            covered feasible
      ];
    }

pub returns : goal.returns
returns c =
    let p = c.args.problem.now in
    let few : c.items-sets.result ≤ 10 = omega (arith, c.items-sets.ensures.count, c.requires) in
    let fits : 1 * 2 ^ c.items-sets.result % 2 ^ 32 ≡ 2 ^ c.items-sets.result = masks_fit c.items-sets.result few in
    let sets : c.loop-mask.mask ≡ 2 ^ c.items-sets.result = omega (arith, fits, c.loop-mask-test.false, c.loop-mask.auto.mask-end) in
    greatest_of p c.loop-mask.mask c.loop-mask.best (sets ∙ ap (λ n. 2 ^ n) c.items-sets.ensures.count)
    c.loop-mask.invariant.reached c.loop-mask.invariant.most
