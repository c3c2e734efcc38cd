use Rattle.std.proofs.Common.{◌∙◌, ap, None, Some}
use Rattle.dali_account.specs.Book.{price_of}
use Rattle.dali_account.specs.AssetList.{AssetList, prices}
use Rattle.dali_account.proofs.AssetLemmas.{found_price}
use Rattle.dali_account.proofs.assets.Assets.price.Goals as goal

pub returns-in-Some : goal.returns-in-Some
returns-in-Some c = found_price c.self.inside.listings.entries c.args.code (Some c.in-Some.listing.now) c.in-Some.ensures.value
    ∙ ap (λ (a : AssetList). price_of (prices a.listings) c.args.code) c.self.view_is

pub returns-in-None : goal.returns-in-None
returns-in-None c = found_price c.self.inside.listings.entries c.args.code None c.in-None.ensures.value
    ∙ ap (λ (a : AssetList). price_of (prices a.listings) c.args.code) c.self.view_is
