use Rattle.std.proofs.Common.{◌≡◌, ◌∙◌, ◌+◌, List, ℕ, ◌∷◌, ◌++◌, take, true, sym, ap, subst}
use Rattle.std.proofs.lemmas.List.{take_rest}
use Rattle.dali_cert_text.specs.Form.{is_line}
use Rattle.dali_cert_text.specs.Stages.{Unread}
use Rattle.dali_cert_text.proofs.Pieces.{line_ended, no_line_end}
use Rattle.dali_cert_text.proofs.unread.Unread.next.Goals as goal

pub returns-in_err-at-clause-none : goal.returns-in_err-at-clause-none
returns-in_err-at-clause-none c =
    rw c.from_residual.ensures
    (subst (λ (t : List ℕ). is_line t ≡ true) (ap (λ (u : Unread). u.text) c.self.view_is) (no_line_end c.self.inside.bytes.now (sym c.find.ensures ∙ c.in_err-at.was)))

pub returns-clause-line : goal.returns-clause-line
returns-clause-line c =
    let e = line_ended c.self.inside.bytes.now c.in_ok-at.at (sym c.find.ensures ∙ c.in_ok-at.was) in (
      e.0,
      sym (ap (λ (u : Unread). u.text) c.self.view_is) ∙ e.1
          ∙ ap (λ (t : List ℕ). take c.in_ok-at.at c.self.inside.bytes.now ++ 10 ∷ t) (sym (take_rest c.self.inside.bytes.now (c.in_ok-at.at + 1))),
    )
