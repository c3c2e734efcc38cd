use Rattle.std.proofs.Common.{◌≡◌, ◌<◌, ℤ, List, length, ap, sym, ◌∙◌, arith}
use Rattle.std.proofs.lemmas.List.{ext_get_or}
use Rattle.dali_problem.specs.declared.line_sum.LineSum.{LineSum}
use Rattle.dali_problem.specs.declared.mark.Mark.{Mark}
use Rattle.dali_problem.specs.Clearing.{Clearing}
use Rattle.dali_problem.specs.Partial.{held}
use Rattle.dali_problem.specs.Rules.{credits, debits}
use Rattle.dali_problem.specs.Kept.{Kept, IsOf, no_sum, sum_at}

same_sum : (s t : LineSum) → s.held ≡ t.held → s.credits ≡ t.credits → s.debits ≡ t.debits → s ≡ t
same_sum s t h c d =
    ap (λ (z : ℤ). record { held = z; credits = s.credits; debits = s.debits }) h
    ∙ ap (λ (z : ℤ). record { held = t.held; credits = z; debits = s.debits }) c
    ∙ ap (λ (z : ℤ). record { held = t.held; credits = t.credits; debits = z }) d

-- two partial choices of one problem with the same marks are the same: what is fixed and freed again is as it was
pub same_kept : (p : Clearing) (a b : Kept) → IsOf p a → IsOf p b → a.marks ≡ b.marks → a ≡ b
same_kept p a b of_a of_b same =
    let size : length a.sums ≡ length b.sums = of_a.lines ∙ sym of_b.lines in
    let sums : a.sums ≡ b.sums = ext_get_or no_sum a.sums b.sums size (λ l below.
    let inside : l < length p.lines = omega (arith, below, of_a.lines) in
    same_sum (sum_at a.sums l) (sum_at b.sums l)
    (of_a.held l inside ∙ ap (λ (f : List Mark). held p f l) same ∙ sym (of_b.held l inside))
    (of_a.credits l inside ∙ ap (λ (f : List Mark). credits p f l) same ∙ sym (of_b.credits l inside))
    (of_a.debits l inside ∙ ap (λ (f : List Mark). debits p f l) same ∙ sym (of_b.debits l inside))) in
    ap (λ (f : List Mark). record { marks = f; sums = a.sums }) same
    ∙ ap (λ (ss : List LineSum). record { marks = b.marks; sums = ss }) sums
