use Rattle.std.proofs.Common.{◌≡◌, inl, inr, ℕ, ◌==◌, Bool, true, false, ◌&&◌, ◌||◌, List, length, ap, sym, ◌∙◌}
use Rattle.std.proofs.lemmas.Bool.{cases_Bool}
use Rattle.dali_problem.specs.declared.mark.Mark.{Mark}
use Rattle.dali_problem.specs.declared.mark.Mark.TheVariants.{Undecided, Left}
use Rattle.dali_problem.specs.Partial.{mark}
use Rattle.dali_check.specs.Sides.{opened}
use Rattle.dali_check.specs.Lean.{lean_tree, tight_tree}
use Rattle.dali_check.proofs.Entering.{given, like_opened, left_again}
use Rattle.dali_check.proofs.LeanLike.{lean_like, tight_like}
use Rattle.dali_check.proofs.leaning.lean_with.Goals as goal

-- the two answers of a walk together
joined : (held lean tight told enough : Bool) → held ≡ lean → (held ≡ true → told ≡ (false || tight)) → (held && (enough || told)) ≡ (lean && (enough || tight))
joined held lean tight told enough is when = elim (cases_Bool held) as (λ _. (held && (enough || told)) ≡ (lean && (enough || tight))) [
  | inl holds ↦ ap (λ b. held && (enough || b)) (when holds) ∙ ap (λ b. b && (enough || tight)) is
  | inr fails ↦ ap (λ b. b && (enough || told)) fails ∙ sym (ap (λ b. b && (enough || tight)) (sym is ∙ fails))
]

pub returns-clause-answer : goal.returns-clause-answer
returns-clause-answer c =
    let p = c.args.problem.now in
    let part = c.args.part.now in
    let start : List Mark = c.args.partial.now.marks in
    let entered : (j : ℕ) → mark c.enter.new.partial.marks j ≡ given part.members Undecided start j =
    λ j. c.enter.ensures.marks j ∙ ap (λ (xs : List ℕ). given xs Undecided start j) c.as_slice-members.ensures in
    let like = like_opened (length p.items) part.members start c.enter.new.partial.marks c.requires.of.marks c.enter.ensures.of.marks c.requires.idle entered in
    c.is_lean.ensures
    ∙ joined c.node-held.result (lean_tree p part.bound c.args.value part.tree (opened (length p.items) part.members))
    (tight_tree p part.bound part.tree (opened (length p.items) part.members)) c.node-held.new.tight (part.bound == c.args.value)
    (c.node-held.ensures.answer ∙ sym (lean_like p part.bound c.args.value part.tree (opened (length p.items) part.members) c.enter.new.partial.marks like))
    (λ held. c.node-held.ensures.tight held
    ∙ ap (λ b. false || b) (sym (tight_like p part.bound part.tree (opened (length p.items) part.members) c.enter.new.partial.marks like)))

pub returns-clause-idle : goal.returns-clause-idle
returns-clause-idle c =
    let start : List Mark = c.args.partial.now.marks in
    let back : (j : ℕ) → mark c.leave.new.partial.marks j ≡ given c.as_slice-members.result.now Left c.enter.new.partial.marks j =
    λ j. c.leave.ensures.marks j ∙ ap (λ (f : List Mark). given c.as_slice-members.result.now Left f j) c.node-held.ensures.marks in
    left_again c.as_slice-members.result.now start c.enter.new.partial.marks c.leave.new.partial.marks
    (c.leave.ensures.of.marks ∙ sym c.requires.of.marks) c.requires.idle c.enter.ensures.marks back
