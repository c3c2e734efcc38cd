use Rattle.std.proofs.Common.{◌≡◌, true, ◌&&◌, ◌||◌, sym, List, set, if◌then◌else◌, ap, ◌∙◌}
use Rattle.dali_problem.specs.declared.mark.Mark.{Mark}
use Rattle.dali_problem.specs.declared.mark.Mark.TheVariants.{Undecided, Chosen, Left}
use Rattle.dali_check.proofs.Entering.{put_back, or_assoc}
use Rattle.dali_tree.specs.declared.tree.Tree.{Tree}
use Rattle.dali_tree.specs.declared.tree.End.{End}
use Rattle.dali_check.specs.Lean.{is_led, lean_tree, tight_tree}
use Rattle.dali_check.specs.Ends.{lean_ends, tight_ends}
use Rattle.dali_check.proofs.Branching.{lean_branch, tight_branch}
use Rattle.dali_check.proofs.leaning.+leans.Goals as goal

pub side-returns-clause-marks : goal.side-returns-clause-marks
side-returns-clause-marks t c =
    c.free.ensures.marks
    ∙ ap (λ (f : List Mark). set f c.args.place Undecided) (c.node-held.ensures.marks ∙ c.fix.ensures.marks)
    ∙ put_back c.args.partial.now.marks c.args.place (if c.args.chosen then Chosen else Left) c.requires.undecided

-- both sides of a branch, the second after the first was put back
pub end-returns-else-not-side-clause-answer : goal.end-returns-else-not-side-clause-answer
end-returns-else-not-side-clause-answer t c =
    let p = c.args.problem.now in
    let u = c.args.claim.bound in
    let v = c.args.claim.value in
    let f : List Mark = c.args.partial.now.marks in
    let place = c.in-Branch.place in
    let led : true ≡ is_led p u c.in-Branch.lam f place = sym c.if-not-branch_holds.false ∙ c.branch_holds.ensures.answer in
    let inside : true ≡ lean_tree p u v c.in-Branch.inside (set f place Chosen) =
    sym c.if-not-side.false ∙ c.side.ensures.answer ∙ ap (λ (tree : Tree). lean_tree p u v tree (set f place Chosen)) c.get-inside.ensures in
    let outside : c.side-in-Branch.result ≡ lean_tree p u v c.in-Branch.outside (set f place Left) =
    c.side-in-Branch.ensures.answer ∙ ap (λ (tree : Tree). lean_tree p u v tree (set c.side.new.partial.marks place Left)) c.get-outside.ensures
    ∙ ap (λ (g : List Mark). lean_tree p u v c.in-Branch.outside (set g place Left)) c.side.ensures.marks in
    outside
    ∙ ap (λ b. b && lean_tree p u v c.in-Branch.outside (set f place Left)) (ap (λ b. b && true) led
    ∙ ap (λ b. is_led p u c.in-Branch.lam f place && b) inside)
    ∙ sym (lean_branch p u v place c.in-Branch.lam c.in-Branch.inside c.in-Branch.outside f)
    ∙ sym (ap (λ (e : End). lean_ends p u v e f) c.in-Branch.is)

pub end-returns-else-not-side-clause-tight : goal.end-returns-else-not-side-clause-tight
end-returns-else-not-side-clause-tight t c told =
    let p = c.args.problem.now in
    let u = c.args.claim.bound in
    let f : List Mark = c.args.partial.now.marks in
    let place = c.in-Branch.place in
    let first : c.side.new.tight ≡ (c.args.tight.now || tight_tree p u c.in-Branch.inside (set f place Chosen)) =
    c.side.ensures.tight c.if-not-side.false ∙ ap (λ (tree : Tree). c.args.tight.now || tight_tree p u tree (set f place Chosen)) c.get-inside.ensures in
    c.side-in-Branch.ensures.tight told
    ∙ ap (λ (tree : Tree). c.side.new.tight || tight_tree p u tree (set c.side.new.partial.marks place Left)) c.get-outside.ensures
    ∙ ap (λ (g : List Mark). c.side.new.tight || tight_tree p u c.in-Branch.outside (set g place Left)) c.side.ensures.marks
    ∙ ap (λ b. b || tight_tree p u c.in-Branch.outside (set f place Left)) first
    ∙ or_assoc c.args.tight.now (tight_tree p u c.in-Branch.inside (set f place Chosen)) (tight_tree p u c.in-Branch.outside (set f place Left))
    ∙ ap (λ b. c.args.tight.now || b) (sym (tight_branch p u place c.in-Branch.lam c.in-Branch.inside c.in-Branch.outside f)
    ∙ sym (ap (λ (e : End). tight_ends p u e f) c.in-Branch.is))
