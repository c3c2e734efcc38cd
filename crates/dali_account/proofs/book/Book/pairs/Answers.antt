use Rattle.std.proofs.Common.{◌≢◌, ◌∙◌, List, sym, subst}
use Rattle.std.specs.Prelude.{All}
use Rattle.dali_account.specs.declared.pairs.Pair.{Pair}
use Rattle.dali_account.proofs.PairListLemmas.{all_listed, no_zero_named, pairs_are, none_named}
use Rattle.dali_account.proofs.book.Book.pairs.Goals as goal

pub returns-clause-pairs : goal.returns-clause-pairs
returns-clause-pairs c =
    all_listed c.loop-asset.pairs c.in_ok-held.held.entries c.into_iter-asset-iterator.result c.loop-asset.asset-iterator c.next.new.self c.next.result c.in-None.is c.next.ensures.steps c.loop-asset.invariant c.into_iter-asset-iterator.ensures.into_iter_gives.0
    ∙ pairs_are c.args.self.now.book.balances c.args.account c.in_ok-held.held.entries c.into_iter-asset-iterator.ensures.into_iter_gives.5 c.in_ok-held.ensures.held c.held.ensures.no_zero

pub returns-clause-some : goal.returns-clause-some
returns-clause-some c =
    let all = all_listed c.loop-asset.pairs c.in_ok-held.held.entries c.into_iter-asset-iterator.result c.loop-asset.asset-iterator c.next.new.self c.next.result c.in-None.is c.next.ensures.steps c.loop-asset.invariant c.into_iter-asset-iterator.ensures.into_iter_gives.0 in
    subst (λ (ps : List Pair). All (λ (p : Pair). p.balance ≢ 0) ps) (sym all)
    (no_zero_named c.args.self.now.book.balances c.args.account c.in_ok-held.held.entries c.into_iter-asset-iterator.ensures.into_iter_gives.5 c.in_ok-held.ensures.held)

pub returns-clause-unknown : goal.returns-clause-unknown
returns-clause-unknown c absent =
    all_listed c.loop-asset.pairs c.in_ok-held.held.entries c.into_iter-asset-iterator.result c.loop-asset.asset-iterator c.next.new.self c.next.result c.in-None.is c.next.ensures.steps c.loop-asset.invariant c.into_iter-asset-iterator.ensures.into_iter_gives.0
    ∙ none_named c.args.self.now.book.balances c.args.account c.in_ok-held.held.entries c.into_iter-asset-iterator.ensures.into_iter_gives.5 c.in_ok-held.ensures.held (c.held.ensures.unknown absent)
