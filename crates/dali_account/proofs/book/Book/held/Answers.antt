use Rattle.std.proofs.Common.{◌≡◌, ◌+◌, ℕ, ◌∙◌, List, drop, ap, subst, false}
use Rattle.std.specs.BTreeMap.{get, is_at}
use Rattle.std.specs.Cmp.Lexicographic.{slice_cmp}
use Rattle.std.specs.Map.{lookup, keys_of}
use Rattle.std.specs.Ordering.{nat_cmp}
use Rattle.dali_account.specs.Book.{has_account}
use Rattle.dali_account.specs.Units.{units_of, some_units}
use Rattle.dali_account.proofs.PairLemmas.{found_with, found_start, found_more, rest_at}
use Rattle.dali_account.proofs.book.Book.held.Goals as goal

pub loop-place-init : goal.loop-place-init
loop-place-init c =
    found_start c.self.inside.accounts.names c.self.inside.assets c.self.inside.balances.units c.self.inside.earmarks.units c.self.invariant c.args.account
    (get (slice_cmp nat_cmp) c.new-held.result) (get (slice_cmp nat_cmp) c.put.new.held)
    (λ q. ap (lookup (is_at (slice_cmp nat_cmp q))) c.new-held.ensures.empty)
    (λ q. c.in_ok-put.ensures q
    ∙ ap (λ n. found_with (get (slice_cmp nat_cmp) c.new-held.result) c.cash_name-cash.result n q) c.units.ensures.units
    ∙ ap (λ (a : List ℕ). found_with (get (slice_cmp nat_cmp) c.new-held.result) a (units_of c.self.inside.balances.units (c.args.account, a)) q) c.cash_name-cash.ensures)

pub loop-place-preserved : goal.loop-place-preserved
loop-place-preserved c =
    let rest = rest_at (keys_of c.self.inside.assets.listings) c.loop-place.place c.code-code.result c.code-code.ensures in
    found_more (λ q. units_of c.self.inside.balances.units (c.args.account, q)) (get (slice_cmp nat_cmp) c.loop-place.held) (get (slice_cmp nat_cmp) c.put-in-loop-place.new.held) c.code-code.result
    (λ q. c.in_ok-put-2.ensures q ∙ ap (λ n. found_with (get (slice_cmp nat_cmp) c.loop-place.held) c.code-code.result n q) c.units-in-loop-place.ensures.units)
    c.loop-place.invariant.none (drop (c.loop-place.place + 1) (keys_of c.self.inside.assets.listings))
    (subst (λ (names : List (List ℕ)). (q : List ℕ) → has_account names q ≡ false → get (slice_cmp nat_cmp) c.loop-place.held q ≡ some_units (units_of c.self.inside.balances.units (c.args.account, q))) rest c.loop-place.invariant.done)
