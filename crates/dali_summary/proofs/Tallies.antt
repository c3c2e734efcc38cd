use Rattle.std.proofs.Common.{◌≡◌, ◌∙◌, ℕ, ◌+◌, Bool, true, false, cond, List, [], ◌∷◌, ◌++◌, length, refl, sym, ap, arith, length-append}
use Rattle.std.specs.List.{count_by, flat_map}
use Rattle.std.proofs.lemmas.List.{append-nil}
use Rattle.std.proofs.lemmas.List.Concat.{flat_map-append}
use Rattle.std.proofs.lemmas.List.Sums.{sum_by-append}
use Rattle.dali_machine.specs.declared.outcome.Code.{Code}
use Rattle.dali_machine.specs.declared.outcome.Outcome.{Outcome}
use Rattle.dali_machine.specs.declared.outcome.Outcome.TheVariants.{No, Cycle}
use Rattle.dali_machine.specs.declared.report.CycleReport.{CycleReport}
use Rattle.dali_summary.specs.declared.figures.CycleFigures.{CycleFigures}
use Rattle.dali_summary.specs.Tally.{Answer, is_refusal, figures_of, cycle_of, Tally, tally_of}

-- a tally with one more answer
abbrev pub with_answer : Tally → ℕ → Outcome → Tally
with_answer t number outcome = record {
  commands = t.commands + 1;
  refused = t.refused + cond (is_refusal outcome) 1 0;
  cycles = t.cycles ++ cycle_of number outcome;
}

nothing_plus : (n : ℕ) → n ≡ 0 + n
nothing_plus n = omega arith

plus_nothing : (n : ℕ) → n ≡ n + 0
plus_nothing n = omega arith

same_tally : (a b c d : ℕ) (xs ys : List CycleFigures) → a ≡ b → c ≡ d → xs ≡ ys →
    ◌≡◌ {A = Tally} (record { commands = a; refused = c; cycles = xs }) (record { commands = b; refused = d; cycles = ys })
same_tally a b c d xs ys p q r = cc

-- that is the tally of one more answer
pub tally_more : (answers : List Answer) (number : ℕ) (outcome : Outcome) (t : Tally) → t ≡ tally_of answers →
    with_answer t number outcome ≡ tally_of (answers ++ record { number = number; outcome = outcome } ∷ [])
unfolding tally_of
tally_more answers number outcome t is =
    let last : List Answer = record { number = number; outcome = outcome } ∷ [] in
    ap (λ (s : Tally). with_answer s number outcome) is
    ∙ same_tally _ _ _ _ _ _
    (sym (length-append answers last))
    (ap (λ k. count_by (λ (a : Answer). is_refusal a.outcome) answers + k) (nothing_plus (cond (is_refusal outcome) 1 0))
    ∙ sym (sum_by-append (λ (a : Answer). cond (is_refusal a.outcome) 1 0) answers last))
    (sym (flat_map-append (λ (a : Answer). cycle_of a.number a.outcome) answers last ∙ ap (λ fs. flat_map (λ (a : Answer). cycle_of a.number a.outcome) answers ++ fs) (append-nil (cycle_of number outcome))))

-- the same, by what is kept of the answer
one_more : (answers : List Answer) (number : ℕ) (outcome : Outcome) (t : Tally) (refused : ℕ) (cycles : List CycleFigures) → t ≡ tally_of answers →
    refused ≡ t.refused + cond (is_refusal outcome) 1 0 → cycles ≡ t.cycles ++ cycle_of number outcome →
    ◌≡◌ {A = Tally} (record { commands = t.commands + 1; refused = refused; cycles = cycles }) (tally_of (answers ++ record { number = number; outcome = outcome } ∷ []))
one_more answers number outcome t refused cycles is p q =
    same_tally (t.commands + 1) (t.commands + 1) refused (t.refused + cond (is_refusal outcome) 1 0) cycles (t.cycles ++ cycle_of number outcome) refl p q
    ∙ tally_more answers number outcome t is

pub cycle_more : (answers : List Answer) (number : ℕ) (outcome : Outcome) (report : CycleReport) (t : Tally) → outcome ≡ Cycle report → t ≡ tally_of answers →
    ◌≡◌ {A = Tally} (record { commands = t.commands + 1; refused = t.refused; cycles = t.cycles ++ figures_of number report ∷ [] })
    (tally_of (answers ++ record { number = number; outcome = outcome } ∷ []))
cycle_more answers number outcome report t told is =
    one_more answers number outcome t t.refused (t.cycles ++ figures_of number report ∷ []) is
    (plus_nothing t.refused ∙ ap (λ b. t.refused + cond b 1 0) (sym (ap is_refusal told)))
    (ap (λ fs. t.cycles ++ fs) (sym (ap (cycle_of number) told)))

pub refusal_more : (answers : List Answer) (number : ℕ) (outcome : Outcome) (code : Code) (t : Tally) → outcome ≡ No code → t ≡ tally_of answers →
    ◌≡◌ {A = Tally} (record { commands = t.commands + 1; refused = t.refused + 1; cycles = t.cycles })
    (tally_of (answers ++ record { number = number; outcome = outcome } ∷ []))
refusal_more answers number outcome code t told is =
    one_more answers number outcome t (t.refused + 1) t.cycles is
    (ap (λ b. t.refused + cond b 1 0) (sym (ap is_refusal told)))
    (sym (append-nil t.cycles) ∙ ap (λ fs. t.cycles ++ fs) (sym (ap (cycle_of number) told)))

pub other_more : (answers : List Answer) (number : ℕ) (outcome : Outcome) (t : Tally) → is_refusal outcome ≡ false → cycle_of number outcome ≡ [] → t ≡ tally_of answers →
    ◌≡◌ {A = Tally} (record { commands = t.commands + 1; refused = t.refused; cycles = t.cycles })
    (tally_of (answers ++ record { number = number; outcome = outcome } ∷ []))
other_more answers number outcome t accepted none is =
    one_more answers number outcome t t.refused t.cycles is
    (plus_nothing t.refused ∙ ap (λ b. t.refused + cond b 1 0) (sym accepted))
    (sym (append-nil t.cycles) ∙ ap (λ fs. t.cycles ++ fs) (sym none))

pub tally_none : ◌≡◌ {A = Tally} (record { commands = 0; refused = 0; cycles = [] }) (tally_of [])
unfolding tally_of
tally_none = refl

abbrev pub with_cycles : List CycleFigures → Tally
with_cycles cycles = record { commands = 0; refused = 0; cycles = cycles }
