use Rattle.std.proofs.Common.{◌≡◌, ◌∙◌, ◌≤◌, Some, List, [], ◌∷◌, ◌++◌, length, map, refl, sym, ap, subst, arith}
use Rattle.std.specs.Prelude.{option_and_then}
use Rattle.dali_cert_print.specs.declared.row.Row.{Row}
use Rattle.dali_cert_print.specs.Rows.{row_line}
use Rattle.dali_cert_text.specs.Rowed.{IsRow}
use Rattle.dali_cert_text.specs.Stages.{Stage, problem_of, step, next, run}
use Rattle.dali_cert_text.proofs.Going.{next_is}
use Rattle.dali_cert_text.proofs.TextLaws.{row_again}

-- rows that lead from a stage to another, each within the limits where it comes
pub record Comes (s : Stage) (row : Row) (u : Stage) : Type 0 where
  pub items : length (problem_of s).items ≤ 1024
  pub lines : length (problem_of s).lines ≤ 4096
  pub is : IsRow (length (problem_of s).items) (length (problem_of s).lines) row
  pub led : step s row ≡ Some u

abbrev pub Follows : Stage → List Row → Stage → Type 0
Follows s [] t = s ≡ t
Follows s (row ∷ rows) t = (u : Stage) × Comes s row u × Follows u rows t

pub follows_then : (xs ys : List Row) (s t u : Stage) → Follows s xs t → Follows t ys u → Follows s (xs ++ ys) u
follows_then [] ys s t u one two = subst (λ (v : Stage). Follows v ys u) (sym one) two
follows_then (x ∷ xs) ys s t u one two = (one.0, one.1, follows_then xs ys one.0 t u one.2 two)

pub follows_as : (xs ys : List Row) (s t : Stage) → xs ≡ ys → Follows s xs t → Follows s ys t
follows_as xs ys s t e follows = subst (λ (rs : List Row). Follows s rs t) e follows

pub follows_to : (xs : List Row) (s t u : Stage) → t ≡ u → Follows s xs t → Follows s xs u
follows_to xs s t u e follows = subst (λ (v : Stage). Follows s xs v) e follows

pub follows_run : (rs : List Row) (s t : Stage) → Follows s rs t → run s (map row_line rs) ≡ Some t
follows_run [] s t same = ap (λ (u : Stage). Some u) same
follows_run (row ∷ rs) s t follows =
    let comes = follows.1 in
    let spelt = row_again (length (problem_of s).items) (length (problem_of s).lines) (omega (arith, comes.items)) (omega (arith, comes.lines)) row comes.is in
    let led : next s (row_line row) ≡ Some follows.0 = next_is s (row_line row) row (length (problem_of s).items) (length (problem_of s).lines) refl refl spelt ∙ comes.led in
    ap (option_and_then (λ (u : Stage). run u (map row_line rs))) led ∙ follows_run rs follows.0 t follows.2
