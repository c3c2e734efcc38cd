use Rattle.std.proofs.Common.{[], ◌∷◌, ap, refl}
use Rattle.dali_journal.proofs.HeaderLemmas.{marks_none}
use Rattle.dali_journal.proofs.open.edition_of_marks.Goals as goal

pub returns-in-true-true-true-clause-some : goal.returns-in-true-true-true-clause-some
returns-in-true-true-true-clause-some c = (3, refl, (c.in-true-true-true.is-0, (c.in-true-true-true.is-1, (c.in-true-true-true.is-2, refl))))

pub returns-in-true-true-false-clause-some : goal.returns-in-true-true-false-clause-some
returns-in-true-true-false-clause-some c = (2, refl, (c.in-true-true-false.is-0, (c.in-true-true-false.is-1, ap (λ x. x ∷ []) c.in-true-true-false.is-2)))

pub returns-in_default-clause-none : goal.returns-in_default-clause-none
returns-in_default-clause-none c = λ j are. marks_none c.args.a c.args.b c.args.c j (λ a b d. c.in_default.is-0 a) (λ a b d. c.in_default.is-2 d) (λ a b d. b c.in_default.is-1) (λ a b d. b c.in_default.is-1) are
