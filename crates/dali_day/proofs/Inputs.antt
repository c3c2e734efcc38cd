use Rattle.std.proofs.Common.{◌≡◌, ◌∙◌, ℕ, ◌+◌, ◌≤◌, Bool, true, false, List, [], ◌∷◌, ◌++◌, length, refl, sym, ap, subst, arith, append_assoc, append-nil, length-append}
use Rattle.std.specs.Prelude.{IsTrue}
use Rattle.std.specs.List.{AllByRecursion}
use Rattle.dali_outside.specs.Outside.{Feed}
use Rattle.dali_line.specs.Commands.{commands}
use Rattle.dali_line.specs.Line.{MOST_OF_COMMAND}
use Rattle.dali_line.specs.Lines.{Reader, Gives, Ends, Stops, MOST_OF_FILE, reached}
use Rattle.dali_line.specs.declared.line_end.LineEnd.{LineEnd}
use Rattle.dali_line.specs.declared.line_end.LineEnd.TheVariants as stop
use Rattle.dali_register.specs.Front.{IsFront}
use Rattle.dali_register.proofs.Fronts.{front_within, whole_front}
use Rattle.dali_day.specs.Taken.{StopsWithin}
use Rattle.dali_day.specs.Reading.{Reads}
use Rattle.dali_day.specs.DayRun.{TakenAt, TakesDay}
use Rattle.dali_day.specs.Ending.{end_of_input}
use Rattle.dali_day.specs.declared.end.DayEnd.{DayEnd}
use Rattle.dali_day.specs.declared.end.DayEnd.TheVariants.{Done, PrintFault, DiskFault, OtherDay, JournalFull, OutOfMemory, LongLine}
use Rattle.dali_day.proofs.ReadingOn.{going, moves_on, reads_line, reads_first, reads_within, all_read, all_over}
use Rattle.dali_day.proofs.InputEnds.{broken_off, past_limit, found_long, wants_memory}

-- What is known of the input where lines were given and the file's limit isn't passed, as at another day and a full journal.
abbrev pub TakesWithin : Feed → Feed → List (List ℕ) → Type 0
TakesWithin old new lines = TakesDay old new lines (OtherDay 0)

-- the first of the lines taken
pub takes_front : (old new : Feed) (front whole : List (List ℕ)) → IsFront front whole → TakesWithin old new whole → TakesWithin old new front
takes_front old new front whole is takes = record {
  taken = takes.taken;
  moved = takes.moved;
  first = front_within front whole (commands old.left) is takes.first;
  at = record { limit = takes.at.limit; first = front_within front whole (commands takes.taken) is takes.at.first };
}

-- another end at which no more is known
pub at_disk_fault : (old new : Feed) (lines : List (List ℕ)) → TakesDay old new lines PrintFault → TakesDay old new lines DiskFault
at_disk_fault old new lines takes = record { taken = takes.taken; moved = takes.moved; first = takes.first; at = takes.at }

-- the ends at which it is known, and those at which less is
pub at_print_fault : (old new : Feed) (lines : List (List ℕ)) → TakesWithin old new lines → TakesDay old new lines PrintFault
at_print_fault old new lines takes = record {
  taken = takes.taken;
  moved = takes.moved;
  first = takes.first;
  at = record { limit = omega (arith, takes.at.limit); first = takes.at.first };
}

pub at_other_day : (k : ℕ) (old new : Feed) (lines : List (List ℕ)) → TakesWithin old new lines → TakesDay old new lines (OtherDay k)
at_other_day k old new lines takes = record { taken = takes.taken; moved = takes.moved; first = takes.first; at = takes.at }

pub at_full : (need left : ℕ) (old new : Feed) (lines : List (List ℕ)) → TakesWithin old new lines → TakesDay old new lines (JournalFull need left)
at_full need left old new lines takes = record { taken = takes.taken; moved = takes.moved; first = takes.first; at = takes.at }

pub at_want : (old new : Feed) (lines : List (List ℕ)) → TakesDay old new lines PrintFault → TakesDay old new lines OutOfMemory
at_want old new lines takes = record { taken = takes.taken; moved = takes.moved; first = takes.first; at = takes.at }

-- nothing was taken yet
pub takes_none : (feed : Feed) → TakesWithin feed feed []
takes_none feed = record {
  taken = [];
  moved = refl;
  first = record { rest = commands feed.left; parts = refl };
  at = record { limit = omega arith; first = record { rest = []; parts = refl } };
}

module _ (s : Bool) (old : Feed) (given : List (List ℕ)) (reader new : Reader) (feed after : Feed) (reads : Reads s old given reader feed) where
  -- the bytes taken begin with what was got before
  within_more : reader.over ≡ false → (more : List ℕ) → length reads.got + length more ≤ MOST_OF_FILE + 1 → StopsWithin (reads.got ++ more) given
  within_more running more few = record {
    limit = omega (arith, few, length-append reads.got more);
    first = record { rest = commands (reader.pending ++ more); parts = (going s old given reader feed reads running).whole more };
  }

  -- the reader of lines stopped
  pub takes_stopped : reader.over ≡ false → AllByRecursion (λ line. length line ≤ MOST_OF_COMMAND) given → (end : LineEnd) → Stops s (reader.given + 1) (reached reader feed) (reached new after) end → IsTrue s →
      TakesDay old after given (end_of_input end)
  takes_stopped running short stop.ReadFault stops told = record {
    taken = reads.got ++ stops.got;
    moved = moves_on old.left reads.got feed.left stops.got after.left (reads.moved told) (stops.gets.moved told);
    first = reads_first s old given reader feed reads told;
    at = broken_off s old given reader new feed after reads running short stops;
  }
  takes_stopped running short (stop.LongLine k) stops told = record {
    taken = reads.got ++ stops.1.got;
    moved = moves_on old.left reads.got feed.left stops.1.got after.left (reads.moved told) (stops.1.moved told);
    first = reads_first s old given reader feed reads told;
    at = subst (λ n. TakenAt (LongLine n) (reads.got ++ stops.1.got) after.left given) (sym stops.0)
        (found_long s old given reader new feed after reads running told stops.1);
  }
  takes_stopped running short stop.LongFile stops told = record {
    taken = reads.got ++ (stops.got ++ stops.past ∷ []);
    moved = moves_on old.left reads.got feed.left (stops.got ++ stops.past ∷ []) after.left (reads.moved told) (stops.moved told);
    first = reads_first s old given reader feed reads told;
    at = past_limit s old given reader new feed after reads running short stops;
  }
  takes_stopped running short stop.OutOfMemory stops told = record {
    taken = reads.got ++ stops.got;
    moved = moves_on old.left reads.got feed.left stops.got after.left (reads.moved told) (stops.moved told);
    first = reads_first s old given reader feed reads told;
    at = wants_memory s old given reader new feed after reads running stops;
  }

  pub within_stopped : reader.over ≡ false → (end : LineEnd) → Stops s (reader.given + 1) (reached reader feed) (reached new after) end → IsTrue s → TakesDay old after given PrintFault
  within_stopped running stop.ReadFault stops told = record {
    taken = reads.got ++ stops.got;
    moved = moves_on old.left reads.got feed.left stops.got after.left (reads.moved told) (stops.gets.moved told);
    first = reads_first s old given reader feed reads told;
    at = within_more running stops.got (omega (arith, reads.taken, stops.gets.taken, stops.gets.within));
  }
  within_stopped running (stop.LongLine k) stops told = record {
    taken = reads.got ++ stops.1.got;
    moved = moves_on old.left reads.got feed.left stops.1.got after.left (reads.moved told) (stops.1.moved told);
    first = reads_first s old given reader feed reads told;
    at = within_more running stops.1.got (omega (arith, reads.taken, stops.1.within));
  }
  within_stopped running stop.LongFile stops told = record {
    taken = reads.got ++ (stops.got ++ stops.past ∷ []);
    moved = moves_on old.left reads.got feed.left (stops.got ++ stops.past ∷ []) after.left (reads.moved told) (stops.moved told);
    first = reads_first s old given reader feed reads told;
    at = within_more running (stops.got ++ stops.past ∷ []) (omega (arith, reads.taken, stops.limit, length-append stops.got (stops.past ∷ [])));
  }
  within_stopped running stop.OutOfMemory stops told = record {
    taken = reads.got ++ stops.got;
    moved = moves_on old.left reads.got feed.left stops.got after.left (reads.moved told) (stops.moved told);
    first = reads_first s old given reader feed reads told;
    at = within_more running stops.got (omega (arith, reads.taken, stops.within));
  }

  -- the end of input, met now
  pub takes_end : reader.over ≡ false → Ends s reader new feed after → IsTrue s → TakesDay old after given Done
  takes_end running ends told = record {
    taken = reads.got ++ ends.meets.got;
    moved = moves_on old.left reads.got feed.left ends.meets.got after.left (reads.moved told) (ends.meets.gets.moved told);
    first = reads_first s old given reader feed reads told;
    at = all_read s old given reader new feed after reads running ends told;
  }

  -- or before
  pub takes_over : reader.over ≡ true → IsTrue s → TakesDay old feed given Done
  takes_over ended told = record {
    taken = reads.got;
    moved = reads.moved told;
    first = reads_first s old given reader feed reads told;
    at = all_over s old given reader feed reads ended told;
  }

  -- one more line was given
  pub takes_line : reader.over ≡ false → (line : List ℕ) → Gives s line reader new feed after → IsTrue s → TakesWithin old after (given ++ line ∷ [])
  takes_line running line gives told =
      let more = reads_line s old given reader new feed after line reads running gives in
      record {
        taken = more.got;
        moved = more.moved told;
        first = reads_first s old (given ++ line ∷ []) new after more told;
        at = reads_within s old (given ++ line ∷ []) new after more;
      }

-- at the end of input all commands were taken
pub all_taken : (old new : Feed) (lines : List (List ℕ)) → TakesDay old new lines Done → commands old.left ≡ lines
all_taken old new lines takes = ap commands (takes.moved ∙ ap (λ xs. takes.taken ++ xs) takes.at.end ∙ append-nil takes.taken) ∙ sym takes.at.all

pub within_end : (old new : Feed) (lines : List (List ℕ)) → TakesDay old new lines Done → TakesWithin old new lines
within_end old new lines takes = record {
  taken = takes.taken;
  moved = takes.moved;
  first = takes.first;
  at = record { limit = takes.at.limit; first = record { rest = []; parts = sym takes.at.all ∙ sym (append-nil lines) } };
}
