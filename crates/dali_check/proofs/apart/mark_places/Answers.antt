use Rattle.std.proofs.Common.{◌≡◌, ℕ, Bool, true, false, ◌&&◌, not, List, get_or, refl, ap, sym, ◌∙◌}
use Rattle.std.specs.Bool.{Decides}
use Rattle.std.specs.List.{list_all}
use Rattle.dali_problem.specs.Feasible.{has}
use Rattle.dali_check.proofs.Parting.{free_decides}
use Rattle.dali_check.proofs.apart.mark_places.Goals as goal

false_true : false ≡ true → ⊥
false_true is = cc

told : (result : Bool) (marks : List Bool) (xs ys : List ℕ) → result ≡ list_all (λ j. not (get_or marks j false)) xs → xs ≡ ys →
    Decides result ((j : ℕ) → (get_or marks j false && has ys j) ≡ false)
told result marks xs ys is same =
    let free = free_decides (λ j. get_or marks j false) ys in
    let at : result ≡ list_all (λ j. not (get_or marks j false)) ys = is ∙ ap (list_all (λ j. not (get_or marks j false))) same in
    (λ t. free.0 (sym at ∙ t), λ none. at ∙ free.1 none)

pub returns-then-not-all_free-clause-answer : goal.returns-then-not-all_free-clause-answer
returns-then-not-all_free-clause-answer c =
    let free = told c.all_free.result c.args.marks.now c.as_slice-members.result.now c.args.part.now.members c.all_free.ensures c.as_slice-members.ensures in
    (λ t. absurd (false_true t), λ none. absurd (false_true (sym c.if-not-all_free.true ∙ free.1 none)))

pub returns-clause-answer : goal.returns-clause-answer
returns-clause-answer c =
    let free = told c.all_free.result c.args.marks.now c.as_slice-members.result.now c.args.part.now.members c.all_free.ensures c.as_slice-members.ensures in
    (λ _. free.0 c.if-not-all_free.false, λ _. refl)
