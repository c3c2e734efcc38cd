use Rattle.std.proofs.Common.{sym, arith}
use Rattle.dali_lagrange.proofs.Lists.{multiplier_at, multiplier_past}
use Rattle.dali_lagrange.proofs.listed.next_multiplier.Goals.{else-next-lam-via-then-next-lam+else-lam-next, else-next-lam-via-else-next-lam}
use Rattle.dali_lagrange.proofs.listed.next_multiplier.Goals as goal

pub returns-then-lam-next-clause-value : goal.returns-then-lam-next-clause-value
returns-then-lam-next-clause-value c = multiplier_at c.args.lam.now c.args.next.now c.args.line c.if-next-lam.true c.requires.next.before c.if-lam-next.true

pub returns-else-next-lam-clause-value : goal.returns-else-next-lam-clause-value
returns-else-next-lam-clause-value c = elim c.else-next-lam.branch [
  | else-next-lam-via-then-next-lam+else-lam-next w ↦
      sym (multiplier_past c.args.lam.now c.args.next.now c.args.line c.requires.rising c.requires.next (λ within. w.if-lam-next.false))
  | else-next-lam-via-else-next-lam w ↦
      sym (multiplier_past c.args.lam.now c.args.next.now c.args.line c.requires.rising c.requires.next (λ within. (let past = w.if-next-lam.false in absurd (omega (arith, past, within)))))
]
