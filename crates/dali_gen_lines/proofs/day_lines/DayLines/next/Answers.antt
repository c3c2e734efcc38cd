use Rattle.std.proofs.Common.{◌≡◌, ◌∙◌, ◌==◌, ℕ, ◌+◌, List, ◌∷◌, take, drop, Some, None, position, sym, ap, subst}
use Rattle.std.specs.Prelude.{IsTrue}
use Rattle.dali_line.specs.Commands.{commands}
use Rattle.dali_line.specs.Line.{is_line}
use Rattle.dali_gen_lines.specs.DayLines.{lines_left}
use Rattle.dali_gen_lines.proofs.Plain.{plain_is_line}
use Rattle.dali_gen_lines.proofs.Cutting.{IsCut, cut, no_cut, moved, taken}
use Rattle.dali_gen_lines.proofs.day_lines.DayLines.next.Goals as goal

pub copy-requires : goal.copy-requires
copy-requires c =
    let day : List ℕ = c.self.inside.day in
    let at : ℕ = c.self.inside.at in
    let rest : c.split_at.result.1.now ≡ drop c.self.inside.at c.self.inside.day = c.split_at.ensures.back ∙ ap (drop c.self.inside.at) c.bytes.ensures in
    let found : position (λ b. b == 10) (drop c.self.inside.at c.self.inside.day) ≡ Some c.in-Some.length =
    ap (position (λ b. b == 10)) (sym rest) ∙ sym c.newline.ensures ∙ c.in-Some.is in
    let first : IsCut (drop at day) (lines_left c.self.inside) c.in-Some.length = cut (drop at day) (lines_left c.self.inside) c.in-Some.length c.self.invariant.rest c.self.invariant.plain found in
    subst (λ (xs : List ℕ). IsTrue (is_line (take c.in-Some.length xs))) (sym rest) (plain_is_line (take c.in-Some.length (drop at day)) first.plain)

pub invariant_of-self : goal.invariant_of-self
invariant_of-self c =
    let rest : c.split_at.result.1.now ≡ drop c.self.inside.at c.self.inside.day = c.split_at.ensures.back ∙ ap (drop c.self.inside.at) c.bytes.ensures in
    let found : position (λ b. b == 10) (drop c.self.inside.at c.self.inside.day) ≡ Some c.in-Some.length =
    ap (position (λ b. b == 10)) (sym rest) ∙ sym c.newline.ensures ∙ c.in-Some.is in
    moved c.self.inside.day c.self.inside.at c.in-Some.length (lines_left c.self.inside) c.self.invariant.within c.self.invariant.rest c.self.invariant.plain found

pub returns-in_ok-line-in-Some-clause-some : goal.returns-in_ok-line-in-Some-clause-some
returns-in_ok-line-in-Some-clause-some c =
    let day : List ℕ = c.self.inside.day in
    let at : ℕ = c.self.inside.at in
    let rest : c.split_at.result.1.now ≡ drop c.self.inside.at c.self.inside.day = c.split_at.ensures.back ∙ ap (drop c.self.inside.at) c.bytes.ensures in
    let found : position (λ b. b == 10) (drop c.self.inside.at c.self.inside.day) ≡ Some c.in-Some.length =
    ap (position (λ b. b == 10)) (sym rest) ∙ sym c.newline.ensures ∙ c.in-Some.is in
    let line : c.in_ok-line-in-Some.line ≡ take c.in-Some.length (drop at day) = c.in_ok-line-in-Some.ensures ∙ ap (take c.in-Some.length) rest in
    sym c.self.view_is
    ∙ taken day at c.in-Some.length (lines_left c.self.inside) c.self.invariant.rest c.self.invariant.plain found
    ∙ ap (λ (l : List ℕ). l ∷ commands (drop (at + (c.in-Some.length + 1)) day)) (sym line)

pub returns-in-None-clause-none : goal.returns-in-None-clause-none
returns-in-None-clause-none c =
    let rest : c.split_at.result.1.now ≡ drop c.self.inside.at c.self.inside.day = c.split_at.ensures.back ∙ ap (drop c.self.inside.at) c.bytes.ensures in
    let found : position (λ b. b == 10) (drop c.self.inside.at c.self.inside.day) ≡ None =
    ap (position (λ b. b == 10)) (sym rest) ∙ sym c.newline.ensures ∙ c.in-None.is in
    sym c.self.view_is ∙ no_cut (drop c.self.inside.at c.self.inside.day) (lines_left c.self.inside) c.self.invariant.rest found

pub returns-in-None-clause-over : goal.returns-in-None-clause-over
returns-in-None-clause-over c = returns-in-None-clause-none c
