use Rattle.std.proofs.Common.{◌∙◌, [], ◌∷◌, slice_index, refl, ap, sym, subst}
use Rattle.dali_journal.specs.Holds.{AreMarks}
use Rattle.dali_journal.proofs.HeaderLemmas.{header_made, header_parts, some_from, none_from}
use Rattle.dali_journal.proofs.open.edition_of.Goals as goal

pub returns-clause-some : goal.returns-clause-some
returns-clause-some c = some_from c.edition_of_marks.result _ _ c.edition_of_marks.ensures.some (λ edition are.
    header_made c.args.header.now edition are.0 c.requires (sym c.split_at.ensures.front ∙ c.if-not-is_head_text.ensures.0 refl) (ap (λ bs. slice_index bs 3) (sym c.split_at.ensures.back) ∙ c.if-rest-ne1.false) are.1
    (subst (λ bs. AreMarks are.0 (slice_index bs 0 ∷ slice_index bs 1 ∷ slice_index bs 2 ∷ [])) c.split_at.ensures.back are.2))

pub returns-clause-none : goal.returns-clause-none
returns-clause-none c = none_from c.edition_of_marks.result _ _ c.edition_of_marks.ensures.none (λ refused edition is.
    let parts = header_parts c.args.header.now edition is in
    refused parts.j (subst (λ bs. AreMarks parts.j (slice_index bs 0 ∷ slice_index bs 1 ∷ slice_index bs 2 ∷ [])) (sym c.split_at.ensures.back) parts.are))
