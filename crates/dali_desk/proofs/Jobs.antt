use Rattle.std.proofs.Common.{◌≡◌, ◌≢◌, ◌∙◌, ◌≤◌, ℕ, List, [], ◌∷◌, length, get_or, sym, ap, subst, arith}
use Rattle.std.specs.Prelude.{Result, Ok, Err, OnErr, codes, decimal}
use Rattle.std.proofs.lemmas.Fmt.{decimal_injective}
use Rattle.dali_desk.specs.Words.{IsJob, IsJournalWord}
use Rattle.dali_desk.specs.declared.job.Job.{Job}
use Rattle.dali_desk.specs.declared.job.Job.TheVariants.{Init, Day, Check, Export, Gen, Trial, Raise, Gate, Ship, Follow}

-- what holds at a refusal, and more
pub on_err : {X E A B : Type 0} (r : Result X E) → (A → B) → OnErr r A → OnErr r B
on_err (Ok x) more is = tt
on_err (Err e) more is = more is

-- two words that are neither `gen` or `trial` nor a word before a journal ask for nothing
pub two_words : (words : List (List ℕ)) (one mid two : List ℕ) → length words ≡ 2 → one ≡ get_or words 0 one → mid ≡ get_or words 0 mid → two ≡ get_or words 0 two → ((job : Job) → IsJournalWord two job → ⊥) → (one ≡ codes "gen" → ⊥) → (mid ≡ codes "trial" → ⊥) →
    (job : Job) → IsJob words job → ⊥
two_words words one mid two long first between second none other trial (Init size) is = absurd (omega (arith, long, ap length is.5))
two_words words one mid two long first between second none other trial Day is = none Day (second ∙ ap (λ ws. get_or ws 0 two) is.3)
two_words words one mid two long first between second none other trial Check is = absurd (omega (arith, long, ap length is))
two_words words one mid two long first between second none other trial Export is = none Export (second ∙ ap (λ ws. get_or ws 0 two) is.3)
two_words words one mid two long first between second none other trial (Gen n) is = other (first ∙ ap (λ ws. get_or ws 0 one) is.2)
two_words words one mid two long first between second none other trial Raise is = none Raise (second ∙ ap (λ ws. get_or ws 0 two) is.3)
two_words words one mid two long first between second none other trial Gate is = none Gate (second ∙ ap (λ ws. get_or ws 0 two) is.3)
two_words words one mid two long first between second none other trial Ship is = none Ship (second ∙ ap (λ ws. get_or ws 0 two) is.3)
two_words words one mid two long first between second none other trial Follow is = none Follow (second ∙ ap (λ ws. get_or ws 0 two) is.3)
two_words words one mid two long first between second none other trial (Trial n) is = trial (between ∙ ap (λ ws. get_or ws 0 mid) is.2)

-- words ask for one generated day
pub one_number : (words : List (List ℕ)) (m n : ℕ) → IsJob words (Gen m) → IsJob words (Gen n) → m ≡ n
one_number words m n first second =
    decimal_injective m n (omega (arith, first.1)) (omega (arith, second.1)) (ap (λ ws. get_or ws 1 []) (sym first.2 ∙ second.2))

-- and for one trial
pub one_trial : (words : List (List ℕ)) (m n : ℕ) → IsJob words (Trial m) → IsJob words (Trial n) → m ≡ n
one_trial words m n first second =
    decimal_injective m n (omega (arith, first.1)) (omega (arith, second.1)) (ap (λ ws. get_or ws 1 []) (sym first.2 ∙ second.2))
