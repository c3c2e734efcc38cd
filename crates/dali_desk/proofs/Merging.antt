use Rattle.std.proofs.Common.{◌≡◌, ◌∙◌, ℕ, Bool, true, List, ◌++◌, take, length, refl, ap}
use Rattle.std.proofs.Math.Seq.{take-append_seam}
use Rattle.dali_line.specs.Commands.{commands}
use Rattle.dali_outside.specs.Outside.{Sight}
use Rattle.dali_outside.specs.Stops.{LeavesOnly}
use Rattle.dali_outside.proofs.Moments.{leaves_start, leaves_weaker}
use Rattle.dali_register.specs.Front.{IsFront}
use Rattle.dali_register.specs.TextOf.{lines_of}
use Rattle.dali_gateway.specs.Merge.{merge}
use Rattle.dali_gateway.specs.Order.{givers, share, KeepsOrder}
use Rattle.dali_gateway.proofs.Merging.{keeps_order}
use Rattle.dali_day.specs.CrashPrefix.{EachSpellsFirst, KeepsPrefix}
use Rattle.dali_day.proofs.Prefixes.{kept_start}
use Rattle.dali_desk.specs.DayOver.{DayOver}
use Rattle.dali_desk.specs.GateOver.{SharesAreFirst, KeepsInboxes, DayOverMerge, unfailing}
use Rattle.dali_desk.specs.declared.status.Status.{Status}

-- of the first lines of a merge, those at the positions of an inbox are its first commands
shares_first : (inboxes : List (List ℕ)) (turns : List ℕ) (lines : List (List ℕ)) → IsFront lines (commands (merge inboxes turns)) → SharesAreFirst inboxes turns lines
shares_first inboxes turns lines first inbox =
    let order : KeepsOrder inboxes turns = keeps_order inboxes turns in
    let is = order.fronts inbox (length lines) in
    let front : take (length lines) (commands (merge inboxes turns)) ≡ lines = ap (λ xs. take (length lines) xs) first.parts ∙ take-append_seam lines first.rest in
    record { rest = is.0; parts = is.1 ∙ ap (λ xs. share inbox (givers inboxes turns) xs ++ is.0) front }

-- the law of a stop over a merge keeps each inbox
pub inboxes_kept : (inboxes : List (List ℕ)) (turns : List ℕ) (before after : Sight) → LeavesOnly (KeepsPrefix (merge inboxes turns) before) before after →
    LeavesOnly (KeepsInboxes inboxes turns before) before after
inboxes_kept inboxes turns before after =
    leaves_weaker (KeepsPrefix (merge inboxes turns) before) (KeepsInboxes inboxes turns before) before after
    (λ image text is. record { prefix = is; shares = shares_first inboxes turns (lines_of is.history) is.first })

-- what a stop leaves where nothing was done
pub nothing_done : (inboxes : List (List ℕ)) (turns : List ℕ) (before : Sight) → EachSpellsFirst (merge inboxes turns) before → LeavesOnly (KeepsInboxes inboxes turns before) before before
nothing_done inboxes turns before premise =
    inboxes_kept inboxes turns before before (leaves_start (KeepsPrefix (merge inboxes turns) before) before (kept_start (merge inboxes turns) before premise))

-- a day over the merge
pub over_merge : (told : Bool) (inboxes : List (List ℕ)) (turns left : List ℕ) (before after : Sight) (status : Status) →
    DayOver true told (unfailing (merge inboxes turns)) (unfailing left) before after status → DayOverMerge told inboxes turns before after status
over_merge told inboxes turns left before after status day = record {
  left = left;
  day = day;
  order = keeps_order inboxes turns;
  shares = shares_first inboxes turns;
  prefix = λ tells premise. inboxes_kept inboxes turns before after ((day.promises refl tells).prefix premise);
}
