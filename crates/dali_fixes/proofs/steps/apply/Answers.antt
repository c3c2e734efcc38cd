use Rattle.std.proofs.Common.{◌≡◌, ◌<◌, List, length, take, get_or, true, refl, sym, ◌∙◌, subst}
use Rattle.dali_problem.specs.declared.mark.Mark.{Mark}
use Rattle.dali_tree.specs.declared.fix.Fix.{Fix}
use Rattle.dali_tree.specs.declared.fix.Fix.TheVariants.{Barred}
use Rattle.dali_fixes.specs.Worth.{KeepsWorth}
use Rattle.dali_fixes.proofs.Worths.{fixes_keep_worth}
use Rattle.dali_fixes.proofs.Undoing.{undone_step, members_step, after_step, taken_step}
use Rattle.dali_fixes.proofs.steps.apply.Goals as goal

pub loop-taken-preserved : goal.loop-taken-preserved
loop-taken-preserved c =
    let d : Fix = Barred 0 0 in
    let at = c.loop-taken.taken in
    let fix : Fix = get_or c.args.fixes.now at d in
    let within : at < length c.args.fixes.now = c.loop-taken-test.true in
    let told : c.take_one.result ≡ true = c.if-not-take_one.false in
    let was = c.take_one.ensures.undecided told in
    let is = c.take_one.ensures.taken told in
    record {
      of = c.take_one.ensures.of;
      rest = after_step c.args.problem.now c.args.fixes.now at d fix c.loop-taken.partial.marks c.take_one.new.partial.marks within refl
          (sym c.take_one.ensures.told ∙ told) is ∙ c.loop-taken.invariant.rest;
      taken = taken_step c.args.problem.now c.args.fixes.now at d fix c.args.partial.now.marks c.loop-taken.partial.marks c.take_one.new.partial.marks within refl
          (sym c.take_one.ensures.told ∙ told) is c.loop-taken.invariant.taken;
      back = undone_step c.args.fixes.now at d fix c.args.partial.now.marks c.loop-taken.partial.marks c.take_one.new.partial.marks within refl was is
          c.loop-taken.invariant.back;
      members = members_step c.args.fixes.now at d fix c.loop-taken.partial.marks c.take_one.new.partial.marks within refl was is
          c.loop-taken.invariant.members;
    }

pub returns-then-not-take_one-clause-worth : goal.returns-then-not-take_one-clause-worth
returns-then-not-take_one-clause-worth c =
    subst (λ (g : List Mark). KeepsWorth c.args.problem.now c.args.partial.now.marks g) (sym (c.take_one.ensures.refused c.if-not-take_one.true))
    (fixes_keep_worth c.args.problem.now (take c.loop-taken.taken c.args.fixes.now) c.args.partial.now.marks c.loop-taken.partial.marks
    c.items-items.ensures.bounds c.requires.of.marks c.loop-taken.invariant.taken)

pub returns-clause-worth : goal.returns-clause-worth
returns-clause-worth c =
    fixes_keep_worth c.args.problem.now (take c.loop-taken.taken c.args.fixes.now) c.args.partial.now.marks c.loop-taken.partial.marks
    c.items-items.ensures.bounds c.requires.of.marks c.loop-taken.invariant.taken
