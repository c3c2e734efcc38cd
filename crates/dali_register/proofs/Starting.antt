use Rattle.std.proofs.Common.{◌≡◌, ◌∙◌, ℕ, ◌+◌, ◌<◌, ◌≤◌, Bool, List, [], ◌++◌, length, refl, sym, ap, subst, append-nil, arith}
use Rattle.std.specs.Prelude.{IsTrue}
use Rattle.std.specs.List.{All}
use Rattle.std.proofs.lemmas.List.Elements.{All-nil}
use Rattle.dali_entry.specs.EntryRecord.{EntryRecord}
use Rattle.dali_journal.specs.Frames.{frames_length}
use Rattle.dali_journal.specs.JournalAt.{Reached}
use Rattle.dali_machine.specs.History.{state_of}
use Rattle.dali_outside.specs.Outside.{Sight}
use Rattle.dali_recover.specs.Spells.{records_of}
use Rattle.dali_register.specs.Standing.{HasKept, AreEntries, SoFar}
use Rattle.dali_register.specs.Starting.{Starts}
use Rattle.dali_register.specs.TextOf.{texts}
use Rattle.dali_register.specs.declared.register.Register.{Register}
use Rattle.dali_register.proofs.Adding.{since_none}

-- a register with nothing held back, behind the replies to all that was found
pub so_far_start : (told : Bool) (before : Sight) (found : List EntryRecord) (r : Register) (sight : Sight) → Starts told before found r.state.machine r.journal sight →
    1 ≤ r.journal.left → r.group ≡ [] → r.replies ≡ [] → SoFar told before found [] [] r sight
so_far_start told before found r sight starts left group replies =
    let whole : (found ++ []) ++ [] ≡ found = append-nil (found ++ []) ∙ append-nil found in
    record {
      stands = record {
        at_site = record { size = starts.size; ended = starts.ended; fits = subst (λ list. frames_length list < r.journal.left) (sym group) (omega (arith, left)) };
        kept = subst (λ xs. HasKept told before found xs r.journal.tail r.journal.edition sight) (sym (append-nil found)) (record {
          rest = starts.repeats.rest;
          text = starts.repeats.text;
          stops = starts.repeats.stops;
          goes = starts.repeats.goes;
        });
        entries = subst (AreEntries r.journal.edition found) (sym whole) (record { legal = starts.legal.entries; held = starts.held; reported = starts.reported; added = since_none r.journal.edition found });
        own = All-nil (λ (e : EntryRecord). e.edition ≡ r.journal.edition);
        machine = starts.machine_is ∙ ap state_of (sym whole);
        group = group;
        replies = replies;
        few = omega arith;
      };
      room = omega arith;
      spends = record { full = 0; others = 0; each = omega arith; few = omega arith; syncs = omega (arith, starts.syncs) };
    }
