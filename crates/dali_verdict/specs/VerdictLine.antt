use Rattle.std.specs.Prelude.{ℕ, ◌==◌, if◌then◌else◌, List, [], ◌∷◌, ◌++◌, codes, decimal}
use Rattle.dali_cert_print.specs.Rows.{after_commas}
use Rattle.dali_check.specs.declared.reason.NotAllowed.{NotAllowed}
use Rattle.dali_check.specs.declared.reason.NotAllowed.TheVariants.{Members, Shared, Infeasible, Addable, Swappable, Unproved, NotLean, Overspent, Idle}
use Rattle.dali_verdict.specs.declared.verdict.Figures.{Figures}
use Rattle.dali_verdict.specs.declared.verdict.Why.{Why}
use Rattle.dali_verdict.specs.declared.verdict.Why.TheVariants as why
use Rattle.dali_verdict.specs.declared.verdict.Verdict.{Verdict}
use Rattle.dali_verdict.specs.declared.verdict.Verdict.TheVariants.{Valid, Invalid}

-- The line that says a verdict: its word, and each of its fields behind a comma. The line ends by LF.

-- whether the set is known to be best: its value is the bound
abbrev pub mark_text : Figures → List ℕ
mark_text f = if f.value == f.bound then codes "OPTIMAL" else codes "UNFINISHED"

abbrev pub figures_fields : Figures → List (List ℕ)
figures_fields f = mark_text f ∷ decimal f.value ∷ decimal f.count ∷ decimal f.bound ∷ decimal f.branchings ∷ []

-- a reason, with the number of its part where it has one
abbrev pub reason_fields : NotAllowed → List (List ℕ)
reason_fields Members = codes "MEMBERS" ∷ []
reason_fields Shared = codes "SHARED" ∷ []
reason_fields Infeasible = codes "INFEASIBLE" ∷ []
reason_fields Addable = codes "ADDABLE" ∷ []
reason_fields Swappable = codes "SWAPPABLE" ∷ []
reason_fields (Unproved part) = codes "UNPROVED" ∷ decimal part ∷ []
reason_fields (NotLean part) = codes "NOTLEAN" ∷ decimal part ∷ []
reason_fields Overspent = codes "OVERSPENT" ∷ []
reason_fields Idle = codes "IDLE" ∷ []

abbrev pub why_fields : Why → List (List ℕ)
why_fields (why.Form line) = codes "FORM" ∷ decimal line ∷ []
why_fields (why.NotAllowed reason) = reason_fields reason

abbrev pub verdict_line : Verdict → List ℕ
verdict_line (Valid figures) = codes "VALID" ++ after_commas (figures_fields figures) ++ 10 ∷ []
verdict_line (Invalid reason) = codes "INVALID" ++ after_commas (why_fields reason) ++ 10 ∷ []
