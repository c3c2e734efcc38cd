use Rattle.std.proofs.Common.{◌≡◌, ◌+◌, ◌≤◌, drop}
use Rattle.dali_account.specs.AssetList.{prices}
use Rattle.dali_account.proofs.MidwayLemmas.{Midway}
use Rattle.dali_account.proofs.book.Book.post.Given as goal

abbrev pub invariant-loop-item : goal.invariant-loop-item
invariant-loop-item l = record {
  accounts : l.self-inside.accounts ≡ l.initial.self-inside.accounts;
  earmarks : l.self-inside.earmarks ≡ l.initial.self-inside.earmarks;
  readied : l.self-inside.assets.readied ≡ l.initial.self-inside.assets.readied;
  spare : l.initial.self-inside.balances.spare ≤ l.self-inside.balances.spare + l.item-index;
  midway : Midway l.initial.self-inside.accounts.names (prices l.initial.self-inside.assets.listings) l.initial.self-inside.earmarks.units l.self-inside.assets l.initial.self-inside.balances.units l.self-inside.balances.units l.item-items (drop l.item-index l.item-items);
}
