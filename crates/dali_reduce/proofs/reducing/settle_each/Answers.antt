use Rattle.std.proofs.Common.{◌≡◌, ◌⊎◌, inl, inr, ℕ, ◌+◌, ◌≤◌, true, false, ◌||◌, eqb, leb, length, arith}
use Rattle.std.proofs.lemmas.Bool.{MatchBool-at_false, cases_eq, cases_lt, leb-true, le-leb, lt-leb, eq-eqb, or_left, or_right}
use Rattle.dali_reduce.specs.Run.{Clears}
use Rattle.dali_reduce.proofs.Taken.{goes_none, goes_both}
use Rattle.dali_reduce.proofs.Settling.{settled_wider, lines_done}
use Rattle.dali_reduce.proofs.Starting.{debit_within}
use Rattle.dali_reduce.proofs.reducing.settle_each.Goals as goal

pub returns-in_err-settle_line-clause-goes : goal.returns-in_err-settle_line-clause-goes
returns-in_err-settle_line-clause-goes c =
    goes_both c.args.problem.now c.args.partial.now.marks c.loop-line.partial.marks c.settle_line.new.partial.marks
    c.args.fixes.now c.loop-line.fixes c.settle_line.new.fixes c.loop-line.invariant.goes c.settle_line.ensures.goes

pub returns-then-branch-clause-goes : goal.returns-then-branch-clause-goes
returns-then-branch-clause-goes c =
    goes_both c.args.problem.now c.args.partial.now.marks c.loop-line.partial.marks c.settle_line.new.partial.marks
    c.args.fixes.now c.loop-line.fixes c.settle_line.new.fixes c.loop-line.invariant.goes c.settle_line.ensures.goes

pub loop-line-init : goal.loop-line-init
loop-line-init c = record {
  of = c.requires.of;
  goes = goes_none c.args.problem.now c.args.partial.now.marks c.args.fixes.now;
  settled = settled_wider c.args.problem.now c.args.partial.now.marks c.args.fixes.now 0 (λ _. true) (λ k. leb 0 k) (λ _. false) (λ l told. le-leb 0 l (omega arith)) c.requires.settled;
}

this_or_later : (i l : ℕ) → leb i l ≡ true → (eqb i l || leb (i + 1) l) ≡ true
this_or_later i l told = elim (cases_eq i l) as (λ _. (eqb i l || leb (i + 1) l) ≡ true) [
  | inl same ↦ or_left (eqb i l) (leb (i + 1) l) (eq-eqb i l same)
  | inr other ↦ or_right (eqb i l) (leb (i + 1) l) (le-leb (i + 1) l (omega (arith, leb-true i l told, other)))
]

pub loop-line-preserved : goal.loop-line-preserved
loop-line-preserved c =
    let p = c.args.problem.now in
    let clears : Clears p c.loop-line.partial.marks c.settle_line.new.partial.marks c.loop-line.fixes c.settle_line.new.fixes (λ l. eqb c.loop-line.line l) =
    MatchBool-at_false _ _ c.if-branch.false c.in_ok-settle_line.ensures.settled in
    record {
      of = c.settle_line.ensures.of;
      goes = goes_both p c.args.partial.now.marks c.loop-line.partial.marks c.settle_line.new.partial.marks
          c.args.fixes.now c.loop-line.fixes c.settle_line.new.fixes c.loop-line.invariant.goes c.settle_line.ensures.goes;
      settled = clears.clears 0 (λ k. leb (c.loop-line.line + 1) k) (λ _. false) (omega arith)
          (settled_wider p c.loop-line.partial.marks c.loop-line.fixes 0 (λ k. leb c.loop-line.line k) (λ k. eqb c.loop-line.line k || leb (c.loop-line.line + 1) k)
          (λ _. false) (this_or_later c.loop-line.line) c.loop-line.invariant.settled);
    }

pub returns-clause-settled : goal.returns-clause-settled
returns-clause-settled c =
    let p = c.args.problem.now in
    lines_done p c.loop-line.partial.marks c.loop-line.fixes (λ k. leb c.loop-line.line k) (λ _. false)
    (λ l. elim (cases_lt l (length p.lines)) as (λ _. length p.lines ≤ l ⊎ (leb c.loop-line.line l ≡ false)) [
      | inl below ↦ inr (lt-leb c.loop-line.line l (omega (arith, below, c.loop-line-test.false, c.lines-line-end.ensures.count)))
      | inr past ↦ inl past
    ])
    (λ j l debited. debit_within p j l c.lines-line-end.ensures.bounds debited) c.loop-line.invariant.settled
