use Rattle.std.proofs.Common.{◌≡◌, ◌<◌, ◌+◌, ◌≤◌, ℕ, List, [], length, drop, refl, sym, ap, ◌∙◌, subst, arith, true, pos, ◌+ℤ◌, ◌≤ℤ◌}
use Rattle.std.proofs.lemmas.List.{drop_all}
use Rattle.std.specs.Prelude.{All}
use Rattle.dali_account.specs.declared.net.Move.{Move}
use Rattle.dali_account.specs.Units.{Units, units_of}
use Rattle.dali_account.specs.Book.{BookState, knows_pair, held, total_of}
use Rattle.dali_base.specs.Limits.{most_total}
use Rattle.dali_account.specs.AssetList.{prices}
use Rattle.dali_account.specs.Net.{IsNet, pair_of, with_net, asset_delta}
use Rattle.dali_account.proofs.MidwayLemmas.{Midway, next_rest, midway_start, midway_more, midway_totals, units_fit, total_fits}
use Rattle.dali_account.proofs.book.Book.post.Goals as goal

pub loop-item-init : goal.loop-item-init
loop-item-init c =
    let moves = c.moves-item-items.ensures.moves in
    let is_net : IsNet c.moves-item-items.result.now = subst IsNet (sym moves) c.moves-item-items.ensures.net in
    record {
      accounts = refl;
      earmarks = refl;
      readied = refl;
      spare = omega arith;
      midway = midway_start c.self.inside.accounts.names c.self.inside.assets c.self.inside.earmarks.units c.self.inside.balances.units c.moves-item-items.result.now c.self.invariant is_net
          (subst (λ (s : BookState). All (λ (m : Move). knows_pair s.book m.account m.asset ≡ true) c.moves-item-items.result.now) (sym c.self.view_is)
          (subst (λ (n : List Move). All (λ (m : Move). knows_pair c.args.self.now.book m.account m.asset ≡ true) n) (sym moves) c.requires.known))
          (subst (λ (s : BookState). All (λ (m : Move). pos 0 ≤ℤ (pos (units_of s.book.balances (pair_of m)) +ℤ m.delta)) c.moves-item-items.result.now) (sym c.self.view_is)
          (subst (λ (n : List Move). All (λ (m : Move). pos 0 ≤ℤ (pos (units_of c.args.self.now.book.balances (pair_of m)) +ℤ m.delta)) n) (sym moves) c.requires.covered))
          (subst (λ (s : BookState). (q : List ℕ) → held s.book.accounts (with_net s.book.balances c.moves-item-items.result.now) s.book.earmarks q ≤ most_total) (sym c.self.view_is)
          (subst (λ (n : List Move). (q : List ℕ) → held c.args.self.now.book.accounts (with_net c.args.self.now.book.balances n) c.args.self.now.book.earmarks q ≤ most_total) (sym moves) c.requires.limit));
    }

pub add_move-requires-clause-units : goal.add_move-requires-clause-units
add_move-requires-clause-units c =
    let lt : c.loop-item.item-index < length c.moves-item-items.result.now = omega arith in
    let mid = subst (Midway c.self.inside.accounts.names (prices c.self.inside.assets.listings) c.self.inside.earmarks.units c.loop-item.self-inside.assets c.self.inside.balances.units c.loop-item.self-inside.balances.units c.moves-item-items.result.now) (next_rest c.moves-item-items.result.now c.loop-item.item-index c.item-item.result lt c.item-item.is) c.loop-item.invariant.midway in
    units_fit c.self.inside.accounts.names (prices c.self.inside.assets.listings) c.self.inside.earmarks.units c.loop-item.self-inside.assets c.self.inside.balances.units c.loop-item.self-inside.balances.units c.moves-item-items.result.now c.item-item.result (drop (c.loop-item.item-index + 1) c.moves-item-items.result.now) mid

pub add_move-requires-clause-total : goal.add_move-requires-clause-total
add_move-requires-clause-total c =
    let lt : c.loop-item.item-index < length c.moves-item-items.result.now = omega arith in
    let mid = subst (Midway c.self.inside.accounts.names (prices c.self.inside.assets.listings) c.self.inside.earmarks.units c.loop-item.self-inside.assets c.self.inside.balances.units c.loop-item.self-inside.balances.units c.moves-item-items.result.now) (next_rest c.moves-item-items.result.now c.loop-item.item-index c.item-item.result lt c.item-item.is) c.loop-item.invariant.midway in
    total_fits c.self.inside.accounts.names (prices c.self.inside.assets.listings) c.self.inside.earmarks.units c.loop-item.self-inside.assets c.self.inside.balances.units c.loop-item.self-inside.balances.units c.moves-item-items.result.now c.item-item.result (drop (c.loop-item.item-index + 1) c.moves-item-items.result.now) mid

pub loop-item-preserved : goal.loop-item-preserved
loop-item-preserved c =
    let lt : c.loop-item.item-index < length c.moves-item-items.result.now = omega arith in
    let mid = subst (Midway c.self.inside.accounts.names (prices c.self.inside.assets.listings) c.self.inside.earmarks.units c.loop-item.self-inside.assets c.self.inside.balances.units c.loop-item.self-inside.balances.units c.moves-item-items.result.now) (next_rest c.moves-item-items.result.now c.loop-item.item-index c.item-item.result lt c.item-item.is) c.loop-item.invariant.midway in
    let more = midway_more c.self.inside.accounts.names (prices c.self.inside.assets.listings) c.self.inside.earmarks.units c.loop-item.self-inside.assets c.self.inside.balances.units c.loop-item.self-inside.balances.units c.moves-item-items.result.now c.item-item.result (drop (c.loop-item.item-index + 1) c.moves-item-items.result.now) mid c.add_move.new.assets c.add_move.ensures.prices c.add_move.ensures.totals in
    record {
      accounts = c.loop-item.invariant.accounts;
      earmarks = c.loop-item.invariant.earmarks;
      readied = c.add_move.ensures.readied ∙ c.loop-item.invariant.readied;
      spare = omega (arith, c.add_move.ensures.room, c.loop-item.invariant.spare);
      midway = subst (λ (b : Units). Midway c.self.inside.accounts.names (prices c.self.inside.assets.listings) c.self.inside.earmarks.units c.add_move.new.assets c.self.inside.balances.units b c.moves-item-items.result.now (drop (c.loop-item.item-index + 1) c.moves-item-items.result.now)) (sym c.add_move.ensures.balances) more;
    }

pub returns-clause-totals : goal.returns-clause-totals
returns-clause-totals c asset =
    let mid : Midway c.self.inside.accounts.names (prices c.self.inside.assets.listings) c.self.inside.earmarks.units c.loop-item.self-inside.assets c.self.inside.balances.units c.loop-item.self-inside.balances.units c.moves-item-items.result.now [] =
    subst (Midway c.self.inside.accounts.names (prices c.self.inside.assets.listings) c.self.inside.earmarks.units c.loop-item.self-inside.assets c.self.inside.balances.units c.loop-item.self-inside.balances.units c.moves-item-items.result.now)
    (drop_all c.loop-item.item-index c.moves-item-items.result.now (omega arith)) c.loop-item.invariant.midway in
    let start : held c.self.inside.accounts.names c.self.inside.balances.units c.self.inside.earmarks.units asset ≡ total_of c.args.self.now.book asset =
    ap (λ (s : BookState). total_of s.book asset) c.self.view_is in
    rw (c.loop-item.invariant.accounts, c.loop-item.invariant.earmarks)
    (midway_totals c.self.inside.accounts.names (prices c.self.inside.assets.listings) c.loop-item.self-inside.assets c.self.inside.earmarks.units c.self.inside.balances.units c.loop-item.self-inside.balances.units c.moves-item-items.result.now mid asset
    ∙ ap (λ n. pos n +ℤ asset_delta c.moves-item-items.result.now asset) start
    ∙ ap (λ (ms : List Move). pos (total_of c.args.self.now.book asset) +ℤ asset_delta ms asset) c.moves-item-items.ensures.moves)
