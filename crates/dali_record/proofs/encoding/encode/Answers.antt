use Rattle.std.proofs.Common.{ℕ, ◌+◌, ◌≤◌, ◌≡◌, List, length, sym, ◌∙◌, ap, subst}
use Rattle.dali_record.specs.Longest.{longest}
use Rattle.dali_record.proofs.EntryAgain.{one_entry}
use Rattle.dali_record.proofs.LengthLemmas.{record_length, plain_length}
use Rattle.dali_record.proofs.PutLemmas.{if_ok}
use Rattle.dali_record.proofs.encoding.encode.Goals as goal

pub returns-clause-only : goal.returns-clause-only
returns-clause-only c = λ other within same. one_entry other c.args.entry.now within c.requires same

pub returns-clause-short : goal.returns-clause-short
returns-clause-short c = λ items lines budget sized.
    if_ok c.record_of.result _ _ c.record_of.ensures
    (λ text is. subst (λ (x : List ℕ). length x ≤ longest (length c.args.entry.now.line) items lines budget) (sym is) (record_length items lines budget c.args.entry.now sized))

pub returns-clause-plain : goal.returns-clause-plain
returns-clause-plain c = λ none.
    if_ok c.record_of.result _ _ c.record_of.ensures
    (λ text is. ap (λ (x : List ℕ). length x) is ∙ plain_length c.args.entry.now none)
