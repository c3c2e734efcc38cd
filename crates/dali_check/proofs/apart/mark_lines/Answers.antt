use Rattle.std.proofs.Common.{◌≡◌, ℕ, ◌==◌, ◌<◌, Bool, true, false, ◌&&◌, ◌||◌, not, pos, List, length, get_or, refl, ap, sym, ◌∙◌}
use Rattle.std.specs.Bool.{Decides}
use Rattle.std.specs.List.{All, list_any, list_all}
use Rattle.std.specs.Ordering.{int_eq}
use Rattle.dali_problem.specs.declared.row.Effect.{Effect}
use Rattle.dali_problem.specs.Clearing.{Clearing, item_at, effect}
use Rattle.dali_problem.specs.Limits.{IsProblem}
use Rattle.dali_check.proofs.Lining.{members_decide, lines_are}
use Rattle.dali_check.proofs.apart.mark_lines.Goals as goal

false_true : false ≡ true → ⊥
false_true is = cc

told : (p : Clearing) (result : Bool) (marks : List Bool) (xs ys : List ℕ) → IsProblem p → All (λ j. j < length p.items) ys →
    result ≡ list_all (λ (j : ℕ). list_all (λ (e : Effect). not (get_or marks e.line false)) (item_at p j).effects) xs → xs ≡ ys →
    Decides result ((l : ℕ) → (get_or marks l false && list_any (λ j. not (int_eq (effect p j l) (pos 0))) ys) ≡ false)
told p result marks xs ys limits within is same =
    let free = members_decide p (λ l. get_or marks l false) ys in
    let at : result ≡ list_all (λ (j : ℕ). list_all (λ (e : Effect). not (get_or marks e.line false)) (item_at p j).effects) ys =
    is ∙ ap (list_all (λ (j : ℕ). list_all (λ (e : Effect). not (get_or marks e.line false)) (item_at p j).effects)) same in (
      λ t l. ap (λ b. get_or marks l false && b) (sym (lines_are p ys l limits within)) ∙ free.0 (sym at ∙ t) l,
      λ none. at ∙ free.1 (λ l. ap (λ b. get_or marks l false && b) (lines_are p ys l limits within) ∙ none l),
    )

pub returns-then-not-lines_free-clause-answer : goal.returns-then-not-lines_free-clause-answer
returns-then-not-lines_free-clause-answer c =
    let free = told c.args.problem.now c.lines_free.result c.args.marks.now c.as_slice-members.result.now c.args.part.now.members
    c.items-items.ensures.bounds c.requires.fit c.lines_free.ensures c.as_slice-members.ensures in
    (λ t. absurd (false_true t), λ none. absurd (false_true (sym c.if-not-lines_free.true ∙ free.1 none)))

pub returns-clause-answer : goal.returns-clause-answer
returns-clause-answer c =
    let free = told c.args.problem.now c.lines_free.result c.args.marks.now c.as_slice-members.result.now c.args.part.now.members
    c.items-items.ensures.bounds c.requires.fit c.lines_free.ensures c.as_slice-members.ensures in
    (λ _. free.0 c.if-not-lines_free.false, λ _. refl)

pub returns-clause-marked : goal.returns-clause-marked
returns-clause-marked c _ l =
    c.mark_changed.ensures.marked l
    ∙ ap (λ (xs : List ℕ). get_or c.args.marks.now l false || list_any (λ (j : ℕ). list_any (λ (e : Effect). e.line == l) (item_at c.args.problem.now j).effects) xs) c.as_slice-members.ensures
    ∙ ap (λ b. get_or c.args.marks.now l false || b) (lines_are c.args.problem.now c.args.part.now.members l c.items-items.ensures.bounds c.requires.fit)
