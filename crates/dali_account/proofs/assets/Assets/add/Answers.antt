use Rattle.std.proofs.Common.{◌≡◌, ◌∙◌, ◌++◌, ◌∷◌, [], cond, ap, refl, None}
use Rattle.std.specs.Map.{lookup}
use Rattle.dali_base.specs.Readers.{same_bytes}
use Rattle.indexmap.proofs.CallerLemmas.{insert_entry-new}
use Rattle.dali_account.specs.declared.assets.Listing.{Listing}
use Rattle.dali_account.specs.Book.{cash, has_asset}
use Rattle.dali_account.specs.AssetList.{AssetList, prices, total_at}
use Rattle.dali_account.proofs.AssetLemmas.{no_listing, prices-append, same_total}
use Rattle.dali_account.proofs.assets.Assets.add.Goals as goal

pub returns-in-Ok-clause-prices : goal.returns-in-Ok-clause-prices
returns-in-Ok-clause-prices c =
    let l : Listing = record { price = c.args.price; total = 0 } in
    let none : lookup (same_bytes c.args.code) c.self.inside.listings.entries ≡ None =
    no_listing c.self.inside.listings.entries c.args.code (ap (λ (a : AssetList). has_asset (prices a.listings) c.args.code) c.self.view_is ∙ c.requires) in
    ap prices (c.in-Ok.ensures.entries ∙ insert_entry-new same_bytes c.self.inside.listings c.args.code l none)
    ∙ prices-append c.self.inside.listings.entries c.args.code l
    ∙ ap (λ (a : AssetList). prices a.listings ++ (c.args.code, c.args.price) ∷ []) c.self.view_is

pub returns-in-Ok-clause-totals : goal.returns-in-Ok-clause-totals
returns-in-Ok-clause-totals c asset =
    let l : Listing = record { price = c.args.price; total = 0 } in
    let none : lookup (same_bytes c.args.code) c.self.inside.listings.entries ≡ None =
    no_listing c.self.inside.listings.entries c.args.code (ap (λ (a : AssetList). has_asset (prices a.listings) c.args.code) c.self.view_is ∙ c.requires) in
    ap (λ n. cond (same_bytes asset cash) c.self.inside.cash_total n)
    (same_total c.self.inside.listings.entries c.insert.new.self.entries c.args.code asset l refl none (c.in-Ok.ensures.updates.0 asset))
    ∙ ap (λ (a : AssetList). total_at a asset) c.self.view_is
