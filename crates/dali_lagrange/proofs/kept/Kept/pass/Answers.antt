use Rattle.std.proofs.Common.{◌≡◌, inl, inr, ◌<ℤ◌, true, ap, sym, ◌∙◌, subst, arith}
use Rattle.std.proofs.lemmas.Bool.{cases_lt}
use Rattle.std.proofs.lemmas.Int.{ints}
use Rattle.dali_lagrange.specs.KeptSum.{KeptSum}
use Rattle.dali_lagrange.specs.Still.{IsStillAt}
use Rattle.dali_lagrange.proofs.kept.Kept.pass.Goals.{then-take_gain, else-take_gain}
use Rattle.dali_lagrange.proofs.kept.Kept.pass.Goals as goal

pub loop-line-preserved : goal.loop-line-preserved
loop-line-preserved c = elim c.if-take_gain.branch [
  | then-take_gain w ↦
      let less : c.take_gain.new.self.total <ℤ c.loop-line.self.total = c.take_gain.ensures.gained w.if-take_gain.true in
      record {
        marks = c.take_gain.ensures.marks ∙ c.loop-line.invariant.marks;
        of = c.take_gain.ensures.of;
        not_above = omega (arith, ints, less, c.loop-line.invariant.not_above);
        gained = λ _. omega (arith, ints, less, c.loop-line.invariant.not_above);
        same = λ none. absurd (let told : c.if-take_gain.gained ≡ true = w.gained-is in cc (told, none));
        still = λ none. absurd (let told : c.if-take_gain.gained ≡ true = w.gained-is in cc (told, none));
      }
  | else-take_gain w ↦
      let same : c.take_gain.new.self ≡ c.loop-line.self = c.take_gain.ensures.same w.if-take_gain.false in
      let total : c.take_gain.new.self.total ≡ c.loop-line.self.total = ap (λ (k : KeptSum). k.total) same in
      record {
        marks = c.take_gain.ensures.marks ∙ c.loop-line.invariant.marks;
        of = c.take_gain.ensures.of;
        not_above = omega (arith, ints, total, c.loop-line.invariant.not_above);
        gained = λ told. (let less = c.loop-line.invariant.gained (sym w.gained-is ∙ told) in omega (arith, ints, total, less));
        same = λ none. same ∙ c.loop-line.invariant.same (sym w.gained-is ∙ none);
        still = λ none k below. elim (cases_lt k c.loop-line.line) as (λ _. IsStillAt c.args.problem.now c.args.self.now.marks c.args.self.now.multipliers c.args.self.now.total k) [
          | inl before ↦ c.loop-line.invariant.still (sym w.gained-is ∙ none) k before
          | inr at ↦
              let is : k ≡ c.loop-line.line = omega (arith, below, at) in
              let was : c.loop-line.self ≡ c.args.self.now = c.loop-line.invariant.same (sym w.gained-is ∙ none) in
              subst (IsStillAt c.args.problem.now c.args.self.now.marks c.args.self.now.multipliers c.args.self.now.total) (sym is)
              (subst (λ (k : KeptSum). IsStillAt c.args.problem.now k.marks k.multipliers k.total c.loop-line.line) was (c.take_gain.ensures.none w.if-take_gain.false))
        ];
      }
]
