use Rattle.std.proofs.Common.{◌≡◌, ◌∙◌, ℕ, ◌+◌, Bool, true, false, List, [], ◌∷◌, ◌++◌, length, replicate, refl, sym, ap, subst, append_assoc, append-nil}
use Rattle.std.specs.Prelude.{IsTrue}
use Rattle.dali_entry.specs.EntryRecord.{EntryRecord}
use Rattle.dali_journal.specs.Appends.{AtRest, EitherList, Appends}
use Rattle.dali_journal.specs.Holds.{HoldsAt}
use Rattle.dali_machine.specs.History.{state_of}
use Rattle.dali_machine.specs.Machine.{opening}
use Rattle.dali_outside.specs.Outside.{Sight, Prints, SameDisk, TellsAll, Goes}
use Rattle.dali_outside.specs.Stops.{LeavesOnly}
use Rattle.dali_outside.proofs.Moments.{leaves_on, leaves_weaker}
use Rattle.dali_register.specs.Front.{IsFront, PrintsFront}
use Rattle.dali_register.specs.Leaving.{LeavesDay}
use Rattle.dali_recover.specs.Spells.{records_of, AreEntriesIn}
use Rattle.dali_register.specs.Standing.{HasKept}
use Rattle.dali_register.specs.TextOf.{texts, text_of}
use Rattle.dali_register.proofs.Fronts.{front_more, more_left, either_left}
use Rattle.dali_register.proofs.Putting.{put_left, front_behind, goes_on}
use Rattle.dali_register.proofs.Texts.{texts_append, records_append}

-- a device at rest stays so where its bytes and its marks stay
pub rests : (tail edition : ℕ) (list : List (List ℕ)) (old new : Sight) → SameDisk old new → AtRest tail edition list old → AtRest tail edition list new
rests tail edition list old new same at = record {
  holds = subst (HoldsAt tail edition list) (sym same.bytes) at.holds;
  firm = same.loose ∙ at.firm ∙ ap (λ (ls : List Bool). replicate (length ls) false) (sym same.loose);
}

-- an append of more entries, whose frames have so many bytes
pub record AppendsMore (worked : Bool) (tail edition : ℕ) (kept more : List EntryRecord) (len : ℕ) (old mid : Sight) : Type 0 where
  pub frames : List ℕ
  pub long : length frames ≡ len
  pub appends : Appends worked tail edition (records_of kept) (records_of more) frames old mid

-- A device that has some entries, and more that are appended to them: what stops leave, whether the append worked or not.
module _ (told : Bool) (before : Sight) (found kept more : List EntryRecord) (tail edition len : ℕ) (old mid : Sight) (begins : IsFront found kept) (entries : AreEntriesIn edition (kept ++ more))
    (has : HasKept told before found kept tail edition old) where
  pub appended_stops : (worked : Bool) → IsTrue told → AppendsMore worked tail edition kept more len old mid → LeavesOnly (LeavesDay before found (kept ++ more)) before mid
  appended_stops worked is a =
      leaves_on (LeavesDay before found (kept ++ more)) before old
      (leaves_weaker (LeavesDay before found kept) (LeavesDay before found (kept ++ more)) before old (more_left before found kept more) (has.stops is))
      mid
      (leaves_weaker (EitherList edition (records_of kept) (records_of more) old.printed) (LeavesDay before found (kept ++ more)) old mid
      (λ image text. either_left before found kept more edition old.printed image text begins entries (has.text is)) a.appends.each)

  pub appended_rest : AppendsMore true tail edition kept more len old mid → AtRest (tail + len) edition (records_of (kept ++ more)) mid
  appended_rest a = subst (λ list. AtRest (tail + len) edition list mid) (sym (records_append kept more))
      (subst (λ n. AtRest (tail + n) edition (records_of kept ++ records_of more) mid) a.long (a.appends.done refl))

  -- the replies are printed then
  module _ (piece : List ℕ) (new : Sight) (replies : piece ≡ texts (state_of kept) more) (appends : IsTrue told → AppendsMore true tail edition kept more len old mid)
      (silent : IsTrue told → mid.printed ≡ old.printed) (tells : IsTrue told → TellsAll mid) (same : IsTrue told → SameDisk mid new) where
    text_is : text_of (kept ++ more) ≡ text_of kept ++ piece
    text_is = texts_append opening kept more ∙ ap (λ xs. text_of kept ++ xs) (sym replies)

    printed_is : IsTrue told → mid.printed ≡ before.printed ++ text_of kept
    printed_is is = silent is ∙ has.text is

    pub put_stops_more : (worked : Bool) → IsTrue told → Prints worked piece mid new → LeavesOnly (LeavesDay before found (kept ++ more)) before new
    put_stops_more worked is prints =
        leaves_on (LeavesDay before found (kept ++ more)) before mid (appended_stops true is (appends is)) new
        (put_left before found (kept ++ more) (tail + len) edition (text_of kept) piece [] worked mid new (tells is) (appended_rest (appends is)) entries (front_more found kept more begins)
        (printed_is is) (text_is ∙ ap (λ xs. text_of kept ++ xs) (sym (append-nil piece))) prints (same is))

    pub put_rest : IsTrue told → AtRest (tail + len) edition (records_of (kept ++ more)) new
    put_rest is = rests (tail + len) edition (records_of (kept ++ more)) mid new (same is) (appended_rest (appends is))

    pub put_text : IsTrue told → Prints true piece mid new → new.printed ≡ before.printed ++ text_of (kept ++ more)
    put_text is prints = prints.printed ∙ ap (λ xs. mid.printed ++ xs) (prints.whole refl) ∙ ap (λ xs. xs ++ piece) (printed_is is)
        ∙ append_assoc before.printed (text_of kept) piece ∙ ap (λ xs. before.printed ++ xs) (sym text_is)

    pub put_front : (worked : Bool) → IsTrue told → Prints worked piece mid new → PrintsFront (text_of (kept ++ more)) before new
    put_front worked is prints = subst (λ text. PrintsFront text before new) (sym text_is) (front_behind (text_of kept) piece worked before mid new (printed_is is) prints)

    -- all worked
    pub has_more : (IsTrue told → Prints true piece mid new) → Goes old mid → Goes mid new → HasKept told before found (kept ++ more) (tail + len) edition new
    has_more prints first second = record {
      rest = put_rest;
      text = λ is. put_text is (prints is);
      stops = λ is. put_stops_more true is (prints is);
      goes = goes_on before mid new (goes_on before old mid has.goes first) second;
    }
