use Rattle.std.proofs.Common.{◌≡◌, ℕ, ◌∙◌, Option, pos, ap, subst}
use Rattle.std.specs.Prelude.{unwrap_or}
use Rattle.dali_ledger.specs.Ledger.{LedgerState}
use Rattle.dali_ledger.specs.LedgerKept.{sum_in}
use Rattle.dali_ledger.specs.Postings.{IsLedger, delta_sum}
use Rattle.dali_ledger.proofs.LastLemmas.{last_is}
use Rattle.dali_ledger.proofs.ledger.Ledger.delta_sum.Goals as goal

pub returns-in-Some-clause-last : goal.returns-in-Some-clause-last
returns-in-Some-clause-last c =
    let entry : c.in-Some.sum.now ≡ sum_in c.self.inside.sums.entries (c.args.account, c.args.asset) = ap (λ (o : Option ℕ). unwrap_or o 0) c.in-Some.ensures.value in
    last_is c.args.self.now.postings (c.args.account, c.args.asset) c.in-Some.sum.now
    (subst (λ (s : LedgerState). IsLedger s.postings) c.self.view_is c.self.invariant.ledger)
    (ap pos entry ∙ c.self.invariant.sums (c.args.account, c.args.asset) ∙ ap (λ (s : LedgerState). delta_sum s.postings (c.args.account, c.args.asset)) c.self.view_is)

pub returns-in-None-clause-last : goal.returns-in-None-clause-last
returns-in-None-clause-last c =
    let entry : 0 ≡ sum_in c.self.inside.sums.entries (c.args.account, c.args.asset) = ap (λ (o : Option ℕ). unwrap_or o 0) c.in-None.ensures.value in
    last_is c.args.self.now.postings (c.args.account, c.args.asset) 0
    (subst (λ (s : LedgerState). IsLedger s.postings) c.self.view_is c.self.invariant.ledger)
    (ap pos entry ∙ c.self.invariant.sums (c.args.account, c.args.asset) ∙ ap (λ (s : LedgerState). delta_sum s.postings (c.args.account, c.args.asset)) c.self.view_is)
