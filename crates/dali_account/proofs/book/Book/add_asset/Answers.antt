use Rattle.std.proofs.Common.{◌≡◌, ◌≤◌, ◌+◌, ◌∙◌, length, false, sym, subst, arith}
use Rattle.dali_account.specs.Book.{has_asset}
use Rattle.dali_account.specs.AssetList.{AssetList, prices}
use Rattle.dali_account.specs.Limits.{most_codes}
use Rattle.dali_account.proofs.KeptLemmas.{kept_code}
use Rattle.dali_account.specs.BookKept.{IsBalanced}
use Rattle.dali_account.proofs.book.Book.add_asset.Goals as goal
use Rattle.dali_account.proofs.book.Book.add_asset.Goals.{in-Ok, in-Err}

pub invariant_of-self : goal.invariant_of-self
invariant_of-self c =
    let absent : has_asset (prices c.self.inside.assets.listings) c.args.code ≡ false = sym c.has.ensures ∙ c.if-has.false in
    let fit : length c.self.inside.assets.listings + 1 ≤ most_codes = omega arith in
    elim c.match-add.branch [
      | in-Ok w ↦ kept_code c.self.inside.accounts.names c.self.inside.assets c.add.new.self c.self.inside.balances.units c.self.inside.earmarks.units c.args.code c.args.price c.self.invariant absent fit w.in-Ok.ensures.prices w.in-Ok.ensures.totals
      | in-Err w ↦ subst (λ (a : AssetList). IsBalanced c.self.inside.accounts.names a c.self.inside.balances.units c.self.inside.earmarks.units) (sym w.in-Err.ensures.err) c.self.invariant
    ]
