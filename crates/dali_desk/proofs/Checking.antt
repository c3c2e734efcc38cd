use Rattle.std.proofs.Common.{◌≡◌, ◌∙◌, ℕ, ◌≤◌, inl, inr, Bool, List, [], ◌++◌, length, refl, sym, ap, subst, arith, append-nil, length-append}
use Rattle.std.specs.Prelude.{IsTrue, Err}
use Rattle.dali_outside.specs.Outside.{Feed, Sight, Rose}
use Rattle.dali_outside.specs.Stops.{LeavesOnly}
use Rattle.dali_cert_text.specs.declared.block.Block.{Block}
use Rattle.dali_cert_text.specs.Form.{Spells}
use Rattle.dali_check.specs.Allowed.{Allowed, IsReason}
use Rattle.dali_verdict.specs.declared.verdict.Why.{Why}
use Rattle.dali_verdict.specs.declared.verdict.Why.TheVariants as whys
use Rattle.dali_verdict.specs.declared.verdict.Verdict.{Verdict}
use Rattle.dali_verdict.specs.declared.verdict.Verdict.TheVariants as verdicts
use Rattle.dali_verdict.specs.Verdict.{IsVerdict}
use Rattle.dali_desk.specs.declared.status.Status.{Status}
use Rattle.dali_desk.specs.declared.status.Status.TheVariants.{Done, Invalid, Usage, ReadFault, PrintFault, DiskFault, Damaged, OtherDay, LongLine, LongFile, JournalFull, OutOfMemory, NoGate, BadFrame}
use Rattle.dali_desk.specs.declared.input.InputNo.{InputNo}
use Rattle.dali_desk.specs.declared.input.InputNo.TheVariants as inputs
use Rattle.dali_desk.specs.Texts.{LeavesText, Quiet}
use Rattle.dali_desk.specs.Limits.{most_checked}
use Rattle.dali_desk.specs.Input.{TakesWhole, EndsInput, status_of_unread}
use Rattle.dali_desk.specs.CheckRun.{EndsCheck, CheckTakes, CheckFinds, CheckPrints, IsChecked, Says, CheckRun}
use Rattle.dali_desk.specs.Judging.{SaysInPart, Judges, status_of_verdict}
use Rattle.dali_desk.proofs.Printing.{quiet_start}
use Rattle.dali_desk.proofs.Stopping.{stops_start}

-- a block of an allowed choice isn't invalid
never_invalid : (bytes : List ℕ) (b : Block) (why : Why) → Spells bytes b → Allowed b.problem b.budget b.choice → IsVerdict bytes (verdicts.Invalid why) → ⊥
never_invalid bytes b (whys.Form line) spells allowed verdict = verdict.none b spells
never_invalid bytes b (whys.NotAllowed reason) spells allowed verdict =
    allowed.none reason (subst (λ (x : Block). IsReason x.problem x.budget x.choice reason) (verdict.only b spells) verdict.says).holds

-- where the limit holds and no count rose, the input is judged or memory is wanted
is_checked : (old new : Feed) (before after : Sight) (taken : List ℕ) (status : Status) → length old.left ≤ most_checked → old.left ≡ taken ++ new.left →
    (Rose old.faults new.faults → ⊥) → (Rose before.print_faults after.print_faults → ⊥) → EndsCheck status → (status ≡ ReadFault → Rose old.faults new.faults) →
    (status ≡ PrintFault → Rose before.print_faults after.print_faults) → CheckTakes status taken new.left → IsChecked status
is_checked old new before after taken Done small moved no_read no_print ends read print takes = tt
is_checked old new before after taken (Invalid why) small moved no_read no_print ends read print takes = tt
is_checked old new before after taken Usage small moved no_read no_print ends read print takes = ends
is_checked old new before after taken ReadFault small moved no_read no_print ends read print takes = no_read (read refl)
is_checked old new before after taken PrintFault small moved no_read no_print ends read print takes = no_print (print refl)
is_checked old new before after taken DiskFault small moved no_read no_print ends read print takes = ends
is_checked old new before after taken (Damaged place why) small moved no_read no_print ends read print takes = ends
is_checked old new before after taken (OtherDay k) small moved no_read no_print ends read print takes = ends
is_checked old new before after taken (LongLine k) small moved no_read no_print ends read print takes = ends
is_checked old new before after taken LongFile small moved no_read no_print ends read print takes =
    absurd (omega (arith, small, takes, ap length moved, length-append taken new.left))
is_checked old new before after taken (JournalFull need left) small moved no_read no_print ends read print takes = ends
is_checked old new before after taken (NoGate place) small moved no_read no_print ends read print takes = ends
is_checked old new before after taken (BadFrame place) small moved no_read no_print ends read print takes = ends
is_checked old new before after taken OutOfMemory small moved no_read no_print ends read print takes = tt

-- a run from its parts
checked : (s t : Bool) (old new : Feed) (before after : Sight) (status : Status) (taken text : List ℕ) → EndsCheck status → (status ≡ ReadFault → Rose old.faults new.faults) →
    (status ≡ PrintFault → Rose before.print_faults after.print_faults) → old.faults ≤ new.faults → Quiet t before after → (IsTrue s → old.left ≡ taken ++ new.left) →
    (IsTrue s → CheckTakes status taken new.left) → CheckFinds status taken text → (IsTrue t → CheckPrints status text before after) →
    (IsTrue t → LeavesOnly (LeavesText before text) before after) → CheckRun s t old new before after status
checked s t old new before after status taken text ends read print faults quiet moved far finds printed stops = record {
  statuses = ends;
  read_fault = read;
  print_fault = print;
  faults = faults;
  goes = quiet.goes;
  taken = taken;
  moved = moved;
  far = far;
  text = text;
  finds = finds;
  printed = printed;
  valid = λ told b spells allowed why is.
      let says : Says taken (verdicts.Invalid why) text = subst (λ x. CheckFinds x taken text) is finds in
      let takes : CheckTakes (Invalid why) taken new.left = subst (λ x. CheckTakes x taken new.left) is (far told) in
      let all : old.left ≡ taken = moved told ∙ ap (λ left. taken ++ left) takes.1 ∙ append-nil taken in
      never_invalid taken b why (subst (λ bytes. Spells bytes b) all spells) allowed says.of;
  stops = stops;
  disk = quiet.disk;
  syncs = quiet.syncs;
  complete = λ told small no_read no_print. is_checked old new before after taken status small (moved told) no_read no_print ends read print (far told);
}

-- the input wasn't read whole
pub unread : (s t : Bool) (old new : Feed) (sight : Sight) (why : InputNo) → EndsInput s most_checked old new (Err why) → CheckRun s t old new sight sight (status_of_unread why)
unread s t old new sight inputs.ReadFault breaks =
    checked s t old new sight sight ReadFault breaks.taken [] tt (λ _. breaks.rose) (λ is. absurd (Prim.cc)) breaks.faults (quiet_start t sight) breaks.moved (λ _. breaks.within) refl
    (λ _. refl) (λ _. stops_start sight [])
unread s t old new sight inputs.LongFile passes =
    checked s t old new sight sight LongFile passes.taken [] tt (λ is. absurd (Prim.cc)) (λ is. absurd (Prim.cc)) (omega (arith, passes.quiet)) (quiet_start t sight) passes.moved (λ _. passes.past) refl
    (λ _. refl) (λ _. stops_start sight [])
unread s t old new sight inputs.OutOfMemory wants =
    checked s t old new sight sight OutOfMemory wants.taken [] tt (λ is. absurd (Prim.cc)) (λ is. absurd (Prim.cc)) (omega (arith, wants.quiet)) (quiet_start t sight) wants.moved (λ _. wants.within) refl
    (λ _. refl) (λ _. stops_start sight [])

-- the input was read whole
module _ (s t : Bool) (old new : Feed) (bytes : List ℕ) (whole : TakesWhole s most_checked old bytes new) where
  all_said : (before after : Sight) (verdict : Verdict) (text : List ℕ) → Says bytes verdict text → Quiet t before after → (IsTrue t → after.printed ≡ before.printed ++ text) →
      (IsTrue t → LeavesOnly (LeavesText before text) before after) → CheckRun s t old new before after (status_of_verdict verdict)
  all_said before after (verdicts.Valid figures) text says quiet printed stops =
      checked s t old new before after Done bytes text tt (λ is. absurd (Prim.cc)) (λ is. absurd (Prim.cc)) (omega (arith, whole.gathers.quiet)) quiet whole.gathers.moved
      (λ told. (whole.gathers.within, whole.end told)) (figures, says) printed stops
  all_said before after (verdicts.Invalid why) text says quiet printed stops =
      checked s t old new before after (Invalid why) bytes text tt (λ is. absurd (Prim.cc)) (λ is. absurd (Prim.cc)) (omega (arith, whole.gathers.quiet)) quiet whole.gathers.moved
      (λ told. (whole.gathers.within, whole.end told)) says printed stops

  said_in_part : (before after : Sight) → SaysInPart t bytes before after → CheckRun s t old new before after PrintFault
  said_in_part before after part =
      checked s t old new before after PrintFault bytes part.text tt (λ is. absurd (Prim.cc)) (λ _. part.rose) (omega (arith, whole.gathers.quiet)) part.quiet whole.gathers.moved
      (λ told. (whole.gathers.within, whole.end told)) (part.verdict, part.says) part.front part.stops

  not_said : (sight : Sight) → CheckRun s t old new sight sight OutOfMemory
  not_said sight =
      checked s t old new sight sight OutOfMemory bytes [] tt (λ is. absurd (Prim.cc)) (λ is. absurd (Prim.cc)) (omega (arith, whole.gathers.quiet)) (quiet_start t sight) whole.gathers.moved
      (λ _. whole.gathers.within) refl (λ _. refl) (λ _. stops_start sight [])

  pub read_judged : (before after : Sight) (status : Status) → Judges t bytes before after status → CheckRun s t old new before after status
  read_judged before after status (inl all) =
      subst (CheckRun s t old new before after) (sym all.is) (all_said before after all.verdict all.text all.says all.quiet all.printed all.stops)
  read_judged before after status (inr (inl part)) = subst (CheckRun s t old new before after) (sym part.0) (said_in_part before after part.1)
  read_judged before after status (inr (inr none)) =
      subst (CheckRun s t old new before after) (sym none.0) (subst (λ x. CheckRun s t old new before x OutOfMemory) (sym none.1) (not_said before))
