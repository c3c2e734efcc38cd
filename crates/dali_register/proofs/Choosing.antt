use Rattle.std.proofs.Common.{◌≡◌, ◌∙◌, ℕ, ◌≤◌, List, length, Option, Some, None, sym, ap, subst, refl, arith}
use Rattle.std.specs.Prelude.{IsTrue, unwrap_or, map}
use Rattle.std.specs.Option.{option_map}
use Rattle.dali_check.specs.Allowed.{Allowed}
use Rattle.dali_entry.specs.EntryRecord.{EntryRecord}
use Rattle.dali_journal.specs.Limits.{most_payload}
use Rattle.dali_line.specs.Line.{is_line}
use Rattle.dali_machine.specs.Cycles.{HasChoice, IsChoiceFor, accepted_cycle, input_at}
use Rattle.dali_machine.proofs.Cycling.{input_problem}
use Rattle.dali_queue.specs.declared.cycle.CycleInput.{CycleInput}
use Rattle.dali_machine.specs.History.{HasItsChoice}
use Rattle.dali_machine.specs.Machine.{Machine}
use Rattle.dali_machine.specs.Outcomes.{IsReported}
use Rattle.dali_machine.specs.Step.{judged, step}
use Rattle.dali_machine.specs.declared.judged.Judged.{Judged}
use Rattle.dali_parts.specs.Finest.{AreFinest}
use Rattle.dali_problem.specs.Clearing.{Clearing}
use Rattle.dali_problem.specs.Limits.{IsProblem}
use Rattle.dali_record.proofs.LengthLemmas.{record_length}
use Rattle.dali_record.specs.IsRecord.{IsWithin}
use Rattle.dali_record.specs.RecordText.{record_text}
use Rattle.dali_register.specs.Cycling.{AsksFor, IsMadeOf}
use Rattle.dali_register.specs.Added.{HasFinest}
use Rattle.dali_register.specs.Holding.{MayHold}
use Rattle.dali_register.specs.Making.{IsMade}
use Rattle.dali_register.specs.declared.making.Made.{Made}
use Rattle.dali_register.proofs.Sized.{sized, within, record_short}
use Rattle.dali_tree.specs.Fits.{Fits}
use Rattle.dali_tree.specs.declared.choice.Choice.{Choice}
use Rattle.dali_tree.specs.declared.choice.Part.{Part}

-- The choice found for an accepted CYCLE, and its entry.
module _ (p : Clearing) (budget : ℕ) (choice : Choice) (is : IsProblem p) (small : budget ≤ 4096) (fits : Fits (length p.items) (length p.lines) choice) (allowed : Allowed p budget choice)
    (finest : AreFinest p (map (λ (part : Part). part.members) choice.parts)) where
  asked_choice : (m : Machine) (j : Judged) → AsksFor p budget m j → HasItsChoice m j (Some choice)
  asked_choice m j asks = subst (λ o. HasChoice m o (Some choice)) (sym asks.accepted)
      (subst (λ q. IsChoiceFor q budget choice) asks.problem_is (record { fits = fits; allowed = allowed }))

  asked_finest : (m : Machine) (j : Judged) → AsksFor p budget m j → HasFinest m (Some choice) (accepted_cycle j)
  asked_finest m j asks = subst (λ o. HasFinest m (Some choice) o) (sym asks.accepted)
      (subst (λ q. AreFinest q (map (λ (part : Part). part.members) choice.parts)) asks.problem_is finest)

  pub cycle_within : (edition : ℕ) (line : List ℕ) → 1 ≤ edition → edition ≤ 4 → IsTrue (is_line line) → IsWithin (record { edition = edition; line = line; choice = Some choice })
  cycle_within edition line first newest line_is = record { first = first; newest = newest; line = line_is; choice = within p budget choice is small fits allowed }

  -- its record fits a frame
  pub cycle_framed : (edition : ℕ) (line bytes : List ℕ) → IsTrue (is_line line) → bytes ≡ record_text (record { edition = edition; line = line; choice = Some choice }) → length bytes ≤ most_payload
  cycle_framed edition line bytes line_is same =
      let e : EntryRecord = record { edition = edition; line = line; choice = Some choice } in
      let size = sized p budget choice is small fits allowed in
      omega (arith, ap length same, record_length 1024 4096 4096 e size, record_short e choice refl line_is size)

  pub made_of : (edition own : ℕ) (m : Machine) (line : List ℕ) (made : Made) → own ≡ edition → 1 ≤ own → own ≤ 4 → IsTrue (is_line line) → AsksFor p budget m (judged edition m line) →
      IsMade (record { edition = own; line = line; choice = Some choice }) m made → IsReported (step own m line (Some choice)).outcome → IsMadeOf edition m line made
  made_of edition own m line made same first newest line_is asks is_made reported = record {
    entry = record { edition = own; line = line; choice = Some choice };
    line_is = refl;
    may = record {
      own = same;
      within = cycle_within own line first newest line_is;
      choice = asked_choice m (judged own m line) (subst (λ (x : ℕ). AsksFor p budget m (judged x m line)) (sym same) asks);
      reported = reported;
      finest = asked_finest m (judged own m line) (subst (λ (x : ℕ). AsksFor p budget m (judged x m line)) (sym same) asks);
    };
    cycle = refl;
    is_made = is_made;
  }

-- the input of an accepted CYCLE
pub asks_for : (m : Machine) (j : Judged) (cycle : CycleInput × ℕ) → Some cycle ≡ option_map (λ (c : ℕ × ℕ). (input_at m c.0, c.1)) (accepted_cycle j) → AsksFor cycle.0.problem cycle.1 m j
asks_for m j cycle found = by (accepted_cycle j) refl found
  where
    by : (o : Option (ℕ × ℕ)) → accepted_cycle j ≡ o → Some cycle ≡ option_map (λ (c : ℕ × ℕ). (input_at m c.0, c.1)) o → AsksFor cycle.0.problem cycle.1 m j
    by None is e = absurd (cc)
    by (Some c) is e =
        let budget : cycle.1 ≡ c.1 = ap (λ (o : Option (CycleInput × ℕ)). (unwrap_or o cycle).1) e in
        record {
          moment = c.0;
          accepted = subst (λ b. accepted_cycle j ≡ Some (c.0, b)) (sym budget) is;
          problem_is = ap (λ (o : Option (CycleInput × ℕ)). (unwrap_or o cycle).0.problem) e ∙ input_problem m c.0;
        }
