use Rattle.std.proofs.Common.{◌≡◌, ◌∙◌, ℕ, ◌+◌, ◌<◌, List, [], ◌∷◌, ◌++◌, length, take, get_or, refl, sym, ap, Ok, Err}
use Rattle.std.specs.Prelude.{codes, decimal, OnOk}
use Rattle.std.specs.declared.result.Result.{Result}
use Rattle.std.specs.List.{count_by, flat_map}
use Rattle.std.proofs.lemmas.List.{append-nil, take_more, flat_map_more}
use Rattle.std.proofs.lemmas.List.Concat.{flat_map-append}
use Rattle.dali_machine.specs.declared.outcome.Outcome.{Outcome}
use Rattle.dali_machine.specs.declared.outcome.Outcome.TheVariants.{Done, No, Cycle, Queue, Stat, Ledger}
use Rattle.dali_summary.specs.declared.figures.CycleFigures.{CycleFigures}
use Rattle.dali_summary.specs.Figures.{figures_row}
use Rattle.dali_summary.specs.Tally.{Answer, is_refusal, cycle_of, Tally, tally_of}
use Rattle.dali_summary.specs.Summary.{number_row, row_of, summary_text}

-- what is kept of an answer has the answer's row
row_kept : (number : ℕ) (outcome : Outcome) → flat_map figures_row (cycle_of number outcome) ≡ row_of number outcome
row_kept number Done = refl
row_kept number (No code) = refl
row_kept number (Cycle report) = append-nil (row_of number (Cycle report))
row_kept number (Queue rows) = refl
row_kept number (Stat pairs ids) = refl
row_kept number (Ledger rows) = refl

rows_kept : (answers : List Answer) →
    flat_map figures_row (flat_map (λ (a : Answer). cycle_of a.number a.outcome) answers) ≡ flat_map (λ (a : Answer). row_of a.number a.outcome) answers
rows_kept [] = refl
rows_kept (a ∷ answers) =
    flat_map-append figures_row (cycle_of a.number a.outcome) (flat_map (λ (b : Answer). cycle_of b.number b.outcome) answers)
    ∙ ap (λ (t : List ℕ). t ++ flat_map figures_row (flat_map (λ (b : Answer). cycle_of b.number b.outcome) answers)) (row_kept a.number a.outcome)
    ∙ ap (λ (t : List ℕ). row_of a.number a.outcome ++ t) (rows_kept answers)

-- a text that was added in six pieces to an empty one
six_added : (t u v w x y z a b c d e f : List ℕ) → t ≡ [] → u ≡ t ++ a → v ≡ u ++ b → w ≡ v ++ c → x ≡ w ++ d → y ≡ x ++ e → z ≡ y ++ f →
    z ≡ a ++ b ++ c ++ d ++ e ++ f
six_added t u v w x y z a b c d e f none one two three four five six =
    six ∙ ap (λ (s : List ℕ). s ++ f) (five ∙ ap (λ (s : List ℕ). s ++ e) (four ∙ ap (λ (s : List ℕ). s ++ d)
    (three ∙ ap (λ (s : List ℕ). s ++ c) (two ∙ ap (λ (s : List ℕ). s ++ b) (one ∙ ap (λ (s : List ℕ). s ++ a) none)))))

-- the rows of a tally are the summary of its answers
pub summary_told : (n : ℕ) (answers : List Answer) (waiting postings : ℕ) (tally : Tally) (t u v w x y z : List ℕ) → tally ≡ tally_of answers → t ≡ [] →
    u ≡ t ++ number_row (codes "TRIAL") n → v ≡ u ++ number_row (codes "COMMANDS") tally.commands → w ≡ v ++ number_row (codes "REFUSED") tally.refused →
    x ≡ w ++ flat_map figures_row tally.cycles → y ≡ x ++ number_row (codes "WAITING") waiting → z ≡ y ++ number_row (codes "POSTINGS") postings →
    z ≡ summary_text n answers waiting postings
unfolding tally_of summary_text
summary_told n answers waiting postings tally t u v w x y z is none one two three four five six =
    six_added t u v w x y z _ _ _ _ _ _ none one
    (two ∙ ap (λ (s : Tally). u ++ number_row (codes "COMMANDS") s.commands) is)
    (three ∙ ap (λ (s : Tally). v ++ number_row (codes "REFUSED") s.refused) is)
    (four ∙ ap (λ (s : Tally). w ++ flat_map figures_row s.cycles) is ∙ ap (λ (s : List ℕ). w ++ s) (rows_kept answers))
    five six

-- one more row
pub rows_step : (cycles : List CycleFigures) (i : ℕ) (d : CycleFigures) (old before after : List ℕ) → i < length cycles →
    before ≡ old ++ flat_map figures_row (take i cycles) → after ≡ before ++ figures_row (get_or cycles i d) → after ≡ old ++ flat_map figures_row (take (i + 1) cycles)
rows_step cycles i d old before after within told grew =
    grew ∙ ap (λ (t : List ℕ). t ++ figures_row (get_or cycles i d)) told
    ∙ flat_map_more figures_row old (take i cycles) (get_or cycles i d)
    ∙ ap (λ (fs : List CycleFigures). old ++ flat_map figures_row fs) (sym (take_more cycles i d within))

-- what is so where a call succeeds
pub on_ok : {X E A B : Type 0} (r : Result X E) → (A → B) → OnOk r A → OnOk r B
on_ok (Ok x) f told = f told
on_ok (Err e) f told = tt
