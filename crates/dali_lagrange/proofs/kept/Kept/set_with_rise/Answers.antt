use Rattle.std.proofs.Common.{◌≡◌, ◌<◌, ◌≤◌, ◌^◌, set, List, ℤ, pos, ◌-ℤ◌, length, get_or, sym, ap, subst, ◌∙◌, arith}
use Rattle.std.specs.List.{All}
use Rattle.std.specs.Vec.{with_items}
use Rattle.std.proofs.lemmas.Int.{ints}
use Rattle.std.proofs.lemmas.List.{get_or_read, with_items_is}
use Rattle.std.proofs.lemmas.List.Elements.{All-set}
use mir.Syntax.{w64}
use mir.Val.{to_z, of_z}
use Rattle.dali_lagrange.specs.Best.{sum_with}
use Rattle.dali_lagrange.specs.KeptSum.{KeptSum, IsSumOf}
use Rattle.dali_lagrange.specs.KeptSumLayout.{view_of}
use Rattle.dali_lagrange.proofs.KeptLaws.{touching, line_set, kept_small, values_small}
use Rattle.dali_lagrange.proofs.kept.Kept.set_with_rise.Goals as goal

pub shift_touched-requires-clause-touches : goal.shift_touched-requires-clause-touches
shift_touched-requires-clause-touches c =
    let k : KeptSum = view_of c.self.inside in
    let of : IsSumOf c.args.problem.now k = subst (IsSumOf c.args.problem.now) (sym c.self.view_is) c.requires.of in
    touching c.args.problem.now k c.args.line (length c.as_mut_slice.result.now) c.touching.result.now c.items-items.ensures.bounds of c.requires.line c.touching.ensures
    (ap length c.as_mut_slice.ensures.value ∙ of.places)

pub returns-clause-of : goal.returns-clause-of
returns-clause-of c =
    let k : KeptSum = view_of c.self.inside in
    let of : IsSumOf c.args.problem.now k = subst (IsSumOf c.args.problem.now) (sym c.self.view_is) c.requires.of in
    let inside : c.args.line < length c.self.inside.multipliers.items = omega (arith, of.multipliers, c.requires.line) in
    let now : c.index-now.result.now ≡ get_or k.multipliers c.args.line 0 = get_or_read c.self.inside.multipliers.items c.args.line c.index-now.result.now inside c.index-now.ensures 0 in
    let stored : to_z w64 (of_z w64 c.offset.result) ≡ c.offset.result = omega (arith, ints, c.offset.type_inv) in
    let by : to_z w64 (of_z w64 c.offset.result) ≡ pos c.args.to -ℤ pos (get_or k.multipliers c.args.line 0) =
    stored ∙ c.offset.ensures.exact ∙ ap (λ n. pos c.args.to -ℤ pos n) now in
    let rise : c.args.rise.now ≡ sum_with c.args.problem.now k.marks k.multipliers c.args.line c.args.to -ℤ sum_with c.args.problem.now k.marks k.multipliers c.args.line (get_or k.multipliers c.args.line 0) =
    c.requires.rise
    ∙ ap (λ (v : KeptSum). sum_with c.args.problem.now v.marks v.multipliers c.args.line c.args.to -ℤ sum_with c.args.problem.now v.marks v.multipliers c.args.line (get_or v.multipliers c.args.line 0)) (sym c.self.view_is) in
    let size : length c.shift_touched.new.reduced ≡ length c.self.inside.reduced.items = c.shift_touched.auto.reduced ∙ ap length c.as_mut_slice.ensures.value in
    let whole : (with_items c.self.inside.reduced c.shift_touched.new.reduced).items ≡ c.shift_touched.new.reduced =
    with_items_is c.self.inside.reduced c.shift_touched.new.reduced (size ∙ sym c.self.inside.reduced.ok.0) in
    subst (λ (rs : List ℤ). IsSumOf c.args.problem.now (record { marks = k.marks; multipliers = set k.multipliers c.args.line c.args.to; reduced = rs; total = c.plus.new.total; columns = k.columns })) (sym whole)
    (line_set c.args.problem.now k c.args.line c.args.to c.as_mut_slice.result.now c.shift_touched.new.reduced c.touching.result.now
    (to_z w64 (of_z w64 c.offset.result)) c.args.rise.now c.plus.new.total of c.requires.line
    c.as_mut_slice.ensures.value c.shift_touched.auto.reduced c.touching.ensures by c.shift_touched.ensures rise c.plus.ensures)

pub invariant_of-self : goal.invariant_of-self
invariant_of-self c =
    let bounded : All (λ m. m ≤ 2 ^ 44) (set c.self.inside.multipliers.items c.args.line c.args.to) =
    All-set (λ m. m ≤ 2 ^ 44) c.self.inside.multipliers.items c.args.line c.args.to c.requires.bounded c.self.invariant.multipliers in
    record {
      multipliers = bounded;
      reduced = values_small c.args.problem.now _ c.items-items.ensures.bounds (returns-clause-of c) bounded;
      total = kept_small c.args.problem.now _ c.items-items.ensures.bounds (returns-clause-of c) bounded;
    }
