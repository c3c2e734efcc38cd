use Rattle.std.proofs.Common.{◌≡◌, ◌∙◌, sym, ap, refl, false, true≢false}
use Rattle.dali_base.specs.Readers.{same_bytes}
use Rattle.dali_account.specs.Book.{cash, has_asset}
use Rattle.dali_account.specs.AssetList.{AssetList, prices}
use Rattle.dali_account.proofs.AssetLemmas.{no_asset, prices-set_value}
use Rattle.dali_account.proofs.assets.Assets.set_total.Goals as goal

pub returns-in-None-clause-totals : goal.returns-in-None-clause-totals
returns-in-None-clause-totals c =
    let other : same_bytes c.args.asset cash ≡ false = sym c.is_cash.ensures ∙ c.if-is_cash.false in
    let absent : has_asset (prices c.self.inside.listings.entries) c.args.asset ≡ false = no_asset c.self.inside.listings.entries c.args.asset other c.in-None.ensures.value in
    absurd (true≢false (sym c.requires ∙ sym (ap (λ (a : AssetList). has_asset (prices a.listings) c.args.asset) c.self.view_is) ∙ absent))

pub returns-clause-prices : goal.returns-clause-prices
returns-clause-prices c =
    let w = record c.in-Some.listing.now { total = c.args.total } in
    ap prices (c.get_mut.follows.holds w).0
    ∙ prices-set_value (same_bytes c.args.asset) c.self.inside.listings.entries c.in-Some.listing.now w (sym c.in-Some.ensures.value) refl
    ∙ ap (λ (a : AssetList). prices a.listings) c.self.view_is
