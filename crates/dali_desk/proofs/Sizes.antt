use Rattle.std.proofs.Common.{◌≡◌, ◌∙◌, ◌≤◌, ℕ, List, [], ◌∷◌, sym, ap, subst, arith}
use Rattle.std.proofs.lemmas.Fmt.{decimal_injective}
use Rattle.dali_desk.specs.declared.job.Job.TheVariants.{Init}
use Rattle.dali_desk.specs.Words.{IsJob}

abbrev pub third : List (List ℕ) → List ℕ
third [] = []
third (a ∷ []) = []
third (a ∷ b ∷ []) = []
third (a ∷ b ∷ c ∷ rest) = c

-- the words name one size
pub one_size : (words : List (List ℕ)) (m n : ℕ) → IsJob words (Init m) → IsJob words (Init n) → m ≡ n
one_size words m n one other =
    decimal_injective m n (omega (arith, one.4)) (omega (arith, other.4)) (ap third (sym one.5 ∙ other.5))
