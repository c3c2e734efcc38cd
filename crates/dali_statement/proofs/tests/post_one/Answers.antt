use Rattle.std.proofs.Common.{◌≡◌, ◌+ℤ◌, [], ◌∷◌, List, pos, sym, subst, rules}
use Rattle.dali_account.specs.declared.net.Move.{Move}
use Rattle.dali_ledger.specs.Postings.{IsSum, delta_sum, posted}
use Rattle.dali_ledger.proofs.KeptLemmas.{sum_kept}
use Rattle.dali_statement.proofs.tests.post_one.Goals as goal

pub post-requires-clause-sums : goal.post-requires-clause-sums
post-requires-clause-sums c pair =
    let fits : IsSum (pos c.delta_sum.result +ℤ c.args.item.now.delta) = search rules in
    let net : c.push.new.self ≡ c.args.item.now ∷ [] = search rules in
    subst (λ (n : List Move). IsSum (delta_sum (posted c.reserve.new.self.postings c.args.command n) pair)) (sym net)
    (sum_kept c.reserve.new.self.postings c.args.command c.args.item.now c.delta_sum.ensures.ledger
    (subst (λ z. IsSum (z +ℤ c.args.item.now.delta)) c.delta_sum.ensures.sum fits) pair)
