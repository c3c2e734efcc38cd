use Rattle.std.proofs.Common.{◌≡◌, ◌<◌, pos, length, sym, ap, subst, arith}
use Rattle.std.proofs.lemmas.Int.{ints}
use Rattle.std.proofs.lemmas.List.{get_or_read}
use Rattle.dali_problem.specs.declared.mark.Mark.{Mark}
use Rattle.dali_problem.specs.declared.mark.Mark.TheVariants.{Stranger}
use Rattle.dali_problem.specs.Partial.{mark}
use Rattle.dali_lagrange.specs.Bound.{count_of}
use Rattle.dali_lagrange.specs.KeptSum.{KeptSum, IsSumOf}
use Rattle.dali_lagrange.specs.KeptSumLayout.{view_of}
use Rattle.dali_lagrange.specs.Touched.{reduced_in}
use Rattle.dali_lagrange.proofs.KeptLaws.{turned, kept_small}
use Rattle.dali_lagrange.proofs.kept.Kept.turn.Goals as goal

pub returns-clause-of : goal.returns-clause-of
returns-clause-of c =
    let k : KeptSum = view_of c.self.inside in
    let of : IsSumOf c.args.problem.now k = subst (IsSumOf c.args.problem.now) (sym c.self.view_is) c.requires.of in
    let marked : c.args.place < length c.self.inside.marks.items = omega (arith, of.marks, c.requires.place) in
    let placed : c.args.place < length c.self.inside.reduced.items = omega (arith, of.places, c.requires.place) in
    let from : c.index.result.now ≡ mark c.self.inside.marks.items c.args.place = get_or_read c.self.inside.marks.items c.args.place c.index.result.now marked c.index.ensures Stranger in
    let worth : c.index-2.result.now ≡ reduced_in c.self.inside.reduced.items c.args.place = get_or_read c.self.inside.reduced.items c.args.place c.index-2.result.now placed c.index-2.ensures (pos 0) in
    let up = ap (count_of c.args.to) worth in
    let down = ap (λ (m : Mark). count_of m c.index-2.result.now) from in
    let down_worth = ap (count_of (mark c.self.inside.marks.items c.args.place)) worth in
    turned c.args.problem.now k c.args.place c.args.to c.recount.new.total of c.requires.place
    (omega (arith, ints, c.recount.ensures, up, down, down_worth))

pub invariant_of-self : goal.invariant_of-self
invariant_of-self c = record {
  multipliers = c.self.invariant.multipliers;
  reduced = c.self.invariant.reduced;
  total = kept_small c.args.problem.now _ c.items-items.ensures.bounds (returns-clause-of c) c.self.invariant.multipliers;
}
