use Rattle.std.proofs.Common.{◌≡◌, ◌+◌, ◌<◌, ◌≤◌, ◌∙◌, false, inl, length, get_or, refl, ap, sym, subst, arith}
use Rattle.std.proofs.lemmas.Bool.{MatchBool-at_false}
use Rattle.dali_problem.specs.Clearing.{item_at}
use Rattle.dali_tree.specs.declared.fix.Fix.{Fix}
use Rattle.dali_tree.specs.declared.fix.Fix.TheVariants.{Safe}
use Rattle.dali_fixes.specs.Fixed.{place_of}
use Rattle.dali_reduce.specs.Run.{Clears}
use Rattle.dali_reduce.proofs.Taken.{goes_both, goes_counted, goes_fit}
use Rattle.dali_reduce.proofs.Settling.{goes_longer, settled_reduced}
use Rattle.dali_reduce.proofs.Starting.{stands_on, next_settled, place_fits}
use Rattle.dali_reduce.proofs.reducing.go_on.Goals as goal

pub effects-requires : goal.effects-requires
effects-requires c =
    let d : Fix = Safe 0 in
    subst (λ k. k < length c.args.problem.now.items) (sym (c.place_at-place.ensures d))
    (place_fits (length c.args.problem.now.items) (length c.args.problem.now.lines) c.loop-next.fixes c.loop-next.next d c.loop-next.invariant.fit
    (omega (arith, c.loop-next-test.true, c.len.ensures)))

pub returns-in_err-settle_lines-clause-goes : goal.returns-in_err-settle_lines-clause-goes
returns-in_err-settle_lines-clause-goes c =
    goes_both c.args.problem.now c.args.partial.now.marks c.loop-next.partial.marks c.settle_lines.new.partial.marks
    c.args.fixes.now c.loop-next.fixes c.settle_lines.new.fixes c.loop-next.invariant.goes c.settle_lines.ensures.goes

pub returns-then-branch-clause-goes : goal.returns-then-branch-clause-goes
returns-then-branch-clause-goes c =
    goes_both c.args.problem.now c.args.partial.now.marks c.loop-next.partial.marks c.settle_lines.new.partial.marks
    c.args.fixes.now c.loop-next.fixes c.settle_lines.new.fixes c.loop-next.invariant.goes c.settle_lines.ensures.goes

pub loop-next-smaller : goal.loop-next-smaller
loop-next-smaller c =
    let counted = goes_counted c.args.problem.now c.loop-next.partial.marks c.settle_lines.new.partial.marks c.loop-next.fixes c.settle_lines.new.fixes c.settle_lines.ensures.goes in
    omega (arith, counted, c.loop-next-test.true, c.len.ensures)

pub loop-next-preserved : goal.loop-next-preserved
loop-next-preserved c =
    let p = c.args.problem.now in
    let f = c.loop-next.partial.marks in
    let g = c.settle_lines.new.partial.marks in
    let n = c.loop-next.next in
    let d : Fix = Safe 0 in
    let within : n < length c.loop-next.fixes = omega (arith, c.loop-next-test.true, c.len.ensures) in
    let longer : length c.loop-next.fixes ≤ length c.settle_lines.new.fixes =
    goes_longer p f g c.loop-next.fixes c.settle_lines.new.fixes c.settle_lines.ensures.goes in
    let es : c.effects.result.now ≡ (item_at p (place_of (get_or c.loop-next.fixes n d))).effects =
    c.effects.ensures.effects ∙ ap (λ k. (item_at p k).effects) (c.place_at-place.ensures d) in
    let clears : Clears p f g c.loop-next.fixes c.settle_lines.new.fixes (stands_on c.effects.result.now) =
    MatchBool-at_false _ _ c.if-branch.false c.in_ok-settle_lines.ensures.settled in
    record {
      of = c.settle_lines.ensures.of;
      goes = goes_both p c.args.partial.now.marks f g c.args.fixes.now c.loop-next.fixes c.settle_lines.new.fixes c.loop-next.invariant.goes c.settle_lines.ensures.goes;
      within = omega (arith, within, longer);
      fit = goes_fit p f g c.loop-next.fixes c.settle_lines.new.fixes c.settle_lines.ensures.goes c.loop-next.invariant.fit;
      settled = clears.clears (n + 1) (λ _. false) (λ _. false) (omega (arith, within))
          (next_settled p f c.loop-next.fixes n d (get_or c.loop-next.fixes n d) c.effects.result.now refl within es c.loop-next.invariant.settled);
    }

pub returns-clause-done : goal.returns-clause-done
returns-clause-done c =
    inl (settled_reduced c.args.problem.now c.loop-next.partial.marks c.loop-next.fixes c.loop-next.next
    (omega (arith, c.loop-next-test.false, c.len.ensures)) c.loop-next.invariant.settled)
