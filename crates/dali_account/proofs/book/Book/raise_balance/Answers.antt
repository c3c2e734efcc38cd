use Rattle.std.proofs.Common.{◌≡◌, ◌+◌, ◌∙◌, cond, sym, ap, subst, true}
use Rattle.dali_base.specs.Readers.{same_bytes}
use Rattle.dali_account.specs.Book.{BookState, has_account, has_asset, knows_pair, balance_of, earmark_of, total_of}
use Rattle.dali_account.specs.AssetList.{prices}
use Rattle.dali_account.proofs.SumLemmas.{first_true}
use Rattle.dali_account.proofs.KeptLemmas.{kept_moved, total_moved}
use Rattle.dali_account.proofs.book.Book.raise_balance.Goals as goal

pub invariant_of-self-in-Ok : goal.invariant_of-self-in-Ok
invariant_of-self-in-Ok c =
    let there : has_account c.self.inside.accounts.names c.args.account ≡ true =
    first_true (has_account c.self.inside.accounts.names c.args.account) (has_asset (prices c.self.inside.assets.listings) c.args.asset)
    (ap (λ (s : BookState). knows_pair s.book c.args.account c.args.asset) c.self.view_is ∙ c.requires.pair) in
    let moved = subst (λ (s : BookState). c.args.next.balance + c.args.next.earmark + total_of s.book c.args.asset ≡ balance_of s.book c.args.account c.args.asset + earmark_of s.book c.args.account c.args.asset + c.args.next.total) (sym c.self.view_is) c.requires.moved in
    rw (c.in-Ok.ensures.ok, c.lower.ensures.units)
    (kept_moved c.self.inside.accounts.names c.self.inside.assets c.set_total.new.self c.self.inside.balances.units c.self.inside.earmarks.units c.args.account c.args.asset c.args.next.balance c.args.next.earmark c.args.next.total
    c.self.invariant there c.set_total.ensures.prices c.set_total.ensures.totals moved c.requires.limit)

pub returns-in-Ok-clause-totals : goal.returns-in-Ok-clause-totals
returns-in-Ok-clause-totals c other =
    let there : has_account c.self.inside.accounts.names c.args.account ≡ true =
    first_true (has_account c.self.inside.accounts.names c.args.account) (has_asset (prices c.self.inside.assets.listings) c.args.asset)
    (ap (λ (s : BookState). knows_pair s.book c.args.account c.args.asset) c.self.view_is ∙ c.requires.pair) in
    let moved = subst (λ (s : BookState). c.args.next.balance + c.args.next.earmark + total_of s.book c.args.asset ≡ balance_of s.book c.args.account c.args.asset + earmark_of s.book c.args.account c.args.asset + c.args.next.total) (sym c.self.view_is) c.requires.moved in
    rw (c.in-Ok.ensures.ok, c.lower.ensures.units)
    (total_moved c.self.inside.accounts.names c.self.inside.assets c.set_total.new.self c.self.inside.balances.units c.self.inside.earmarks.units c.args.account c.args.asset c.args.next.balance c.args.next.earmark c.args.next.total
    c.self.invariant there c.set_total.ensures.prices c.set_total.ensures.totals moved c.requires.limit other
    ∙ ap (λ (s : BookState). cond (same_bytes other c.args.asset) c.args.next.total (total_of s.book other)) c.self.view_is)
