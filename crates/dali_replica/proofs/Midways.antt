-- What was used and what is pending, midway in a call.
use Rattle.std.proofs.Common.{◌≡◌, ◌≢◌, ◌∙◌, ℕ, zero, suc, ◌+◌, ◌<◌, ◌≤◌, Bool, List, [], ◌∷◌, ◌++◌, length, take, get_or, refl, sym, ap, arith, append_assoc, append-nil}
use Rattle.std.specs.Prelude.{IsTrue}
use Rattle.std.proofs.lemmas.List.{length-append}
use Rattle.dali_replica.specs.Limits.{most_stream}
use Rattle.dali_line.specs.Lines.{Reach}
use Rattle.dali_replica.specs.Intake.{Midway, Dries, AtEnd, AtLimit, Breaks, StopsShort}
use Rattle.dali_replica.specs.declared.refusal.FrameNo.{FrameNo}
use Rattle.dali_replica.specs.declared.refusal.FrameNo.TheVariants.{ReadFault, BadLength, LongFile, OutOfMemory}

-- where a call starts
pub midway_starts : (told : Bool) (old : Reach) → old.taken ≤ most_stream → Midway told old [] old
midway_starts told old within = record {
  got = [];
  gets = record { moved = λ tells. refl; taken = omega arith; within = within };
  parted = append-nil old.pending;
}

module _ (told : Bool) (old now : Reach) (used : List ℕ) (m : Midway told old used now) (new : Reach) where
  -- all that was got is used, where nothing is pending
  all_used : now.pending ≡ [] → old.pending ++ m.got ≡ used
  all_used empty = m.parted ∙ ap (λ rest. used ++ rest) empty ∙ append-nil used

  -- more bytes came
  pub got_more : now.pending ≡ [] → (IsTrue told → now.left ≡ new.pending ++ new.left) → new.taken ≡ now.taken + length new.pending → new.taken ≤ most_stream →
      Midway told old used new
  got_more empty moved taken within = record {
    got = m.got ++ new.pending;
    gets = record {
      moved = λ tells. m.gets.moved tells ∙ ap (λ rest. m.got ++ rest) (moved tells) ∙ sym (append_assoc m.got new.pending new.left);
      taken = omega (arith, m.gets.taken, taken, length-append m.got new.pending);
      within = within;
    };
    parted = sym (append_assoc old.pending m.got new.pending) ∙ ap (λ bytes. bytes ++ new.pending) (all_used empty);
  }

  -- the first bytes pending are used
  pub uses : (part : List ℕ) → now.pending ≡ part ++ new.pending → new.taken ≡ now.taken → (IsTrue told → new.left ≡ now.left) → Midway told old (used ++ part) new
  uses part parts taken left = record {
    got = m.got;
    gets = record {
      moved = λ tells. m.gets.moved tells ∙ ap (λ rest. m.got ++ rest) (sym (left tells));
      taken = taken ∙ m.gets.taken;
      within = omega (arith, m.gets.within, taken);
    };
    parted = m.parted ∙ ap (λ bytes. used ++ bytes) parts ∙ sym (append_assoc used part new.pending);
  }

  -- no more bytes came
  pub dries : now.pending ≡ [] → new.pending ≡ [] → new.taken ≡ now.taken → (IsTrue told → new.left ≡ now.left) → Dries told old used new
  dries empty still taken left = record {
    midway = record {
      got = m.got;
      gets = record {
        moved = λ tells. m.gets.moved tells ∙ ap (λ rest. m.got ++ rest) (sym (left tells));
        taken = taken ∙ m.gets.taken;
        within = omega (arith, m.gets.within, taken);
      };
      parted = m.parted ∙ ap (λ rest. used ++ rest) (empty ∙ sym still);
    };
    empty = still;
  }

  pub at_end : now.pending ≡ [] → new.pending ≡ [] → new.taken ≡ now.taken → (IsTrue told → new.left ≡ now.left) → (IsTrue told → now.left ≡ []) → AtEnd told old used new
  at_end empty still taken left end = record {
    dries = dries empty still taken left;
    end = λ tells. left tells ∙ end tells;
  }

  -- one byte past the limit came
  pub at_limit : (past : ℕ) → now.pending ≡ [] → now.taken ≡ most_stream → (IsTrue told → now.left ≡ past ∷ new.left) → AtLimit told old used new
  at_limit past empty full moved = record {
    got = m.got;
    past = past;
    moved = λ tells. m.gets.moved tells ∙ ap (λ rest. m.got ++ rest) (moved tells) ∙ sym (append_assoc m.got (past ∷ []) new.left);
    limit = sym m.gets.taken ∙ full;
    parted = all_used empty;
  }

-- no more bytes came within so many
pub breaks_short : (told : Bool) (old now : Reach) (used : List ℕ) (size : ℕ) (part : List ℕ) (e : FrameNo) → length part < size → Breaks told old (used ++ part) now e → StopsShort told old used size now e
breaks_short told old now used size part ReadFault short is = record { part = part; short = short; breaks = is }
breaks_short told old now used size part (BadLength place) short is = absurd is
breaks_short told old now used size part LongFile short is = record { part = part; short = short; breaks = is }
breaks_short told old now used size part OutOfMemory short is = absurd is

-- a take of one byte
pub one_byte : (n : ℕ) (into : List ℕ) → n ≤ 1 → n ≢ 0 → length into ≡ 1 → take n into ≡ get_or into 0 0 ∷ []
one_byte zero into within some one = absurd (some refl)
one_byte (suc zero) (b ∷ into) within some one = refl
one_byte (suc zero) [] within some one = absurd (omega (arith, one))
one_byte (suc (suc n)) into within some one = absurd (omega (arith, within))
