use Rattle.std.proofs.Common.{◌∙◌, cond, sym, ap, Some}
use Rattle.std.specs.BTreeMap.{get}
use Rattle.std.specs.Cmp.Lexicographic.{slice_cmp}
use Rattle.std.specs.Ordering.{nat_cmp}
use Rattle.dali_base.specs.Readers.{same_bytes}
use Rattle.dali_account.proofs.UnitsLemmas.{name_ties}
use Rattle.dali_account.proofs.PairLemmas.{unless_zero}
use Rattle.dali_account.proofs.book.pairs.put.Goals as goal

pub returns-in_ok-insert : goal.returns-in_ok-insert
returns-in_ok-insert c other = c.in_ok-insert.ensures.updates.0 other
    ∙ ap (λ t. cond t (Some c.args.balance) (get (slice_cmp nat_cmp) c.args.held.now other))
    (sym (name_ties c.args.asset other) ∙ sym (unless_zero (same_bytes c.args.asset other) c.args.balance c.if-balance-ne0.true))
