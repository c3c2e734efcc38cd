use Rattle.std.proofs.Common.{◌≡◌, ◌∙◌, ℕ, ◌+◌, ◌<◌, ◌≤◌, Bool, List, [], ◌∷◌, ◌++◌, length, refl, sym, ap, subst, append_assoc, append-nil, arith}
use Rattle.std.specs.Prelude.{Result, Ok, Err, IsErrAnd}
use Rattle.std.proofs.lemmas.Result.{err_from_is_err_and}
use Rattle.dali_entry.specs.EntryRecord.{EntryRecord}
use Rattle.dali_machine.specs.History.{AreNext}
use Rattle.dali_machine.specs.Machine.{opening}
use Rattle.dali_outside.specs.Outside.{Sight, Goes}
use Rattle.dali_record.specs.RecordText.{record_text}
use Rattle.dali_register.specs.Standing.{Stands, Spends, SoFar}
use Rattle.dali_register.specs.Taking.{GivesUp, PrintsInPart, Flushed, TakesEntry, FillsUp, WantsMemory, Breaks, Mumbles, Took}
use Rattle.dali_register.specs.declared.refusal.RegisterNo.{RegisterNo}
use Rattle.dali_register.specs.declared.refusal.RegisterNo.TheVariants.{DiskFault, PrintFault, JournalFull, OutOfMemory}
use Rattle.dali_register.specs.declared.register.Register.{Register}
use Rattle.dali_register.proofs.Spending.{spends_other, spends_full, spends_less}

-- a flush failed before a line was taken
pub took_none : (told : Bool) (before : Sight) (found added held : List EntryRecord) (line : List ℕ) (r : Register) (old new : Sight) (refusal : RegisterNo) → Spends 0 before added old →
    new.syncs ≤ old.syncs + 2 → Flushed told before found added held r old new (Err refusal) → Took told before found (added ++ held) line r old new (Err refusal)
took_none told before found added held line r old new DiskFault spends syncs gives = record {
  more = [];
  lines = record { rest = line ∷ []; parts = refl };
  gives_up = subst (λ xs. GivesUp told before found xs r.journal.edition old new) (append_assoc found added held ∙ sym (append-nil (found ++ (added ++ held)))) gives;
}
took_none told before found added held line r old new PrintFault spends syncs prints = record {
  more = [];
  lines = record { rest = line ∷ []; parts = refl };
  in_part = subst (λ xs. PrintsInPart told before found xs r.journal.tail r.journal.edition old new) (sym (append-nil (added ++ held))) prints;
  spends = subst (λ xs. Spends 1 before xs new) (sym (append-nil (added ++ held))) (spends_other before added held old new spends syncs);
}
took_none told before found added held line r old new (JournalFull need left) spends syncs never = absurd never
took_none told before found added held line r old new OutOfMemory spends syncs never = absurd never

-- memory was wanted, and what was held back is printed
pub took_wanting : (told : Bool) (before : Sight) (found added held : List EntryRecord) (line : List ℕ) (r : Register) (old new : Sight) → Spends 0 before added old → new.syncs ≤ old.syncs + 2 →
    Stands told before found (added ++ held) [] r new → Took told before found (added ++ held) line r old new (Err OutOfMemory)
took_wanting told before found added held line r old new spends syncs stands = record { stands = stands; spends = spends_other before added held old new spends syncs }

-- the record doesn't fit, and what was held back is printed
pub took_full : (told : Bool) (before : Sight) (found added held : List EntryRecord) (e : EntryRecord) (need left : ℕ) (r : Register) (old new : Sight) → Spends 0 before added old → new.syncs ≤ old.syncs + 2 →
    Stands told before found (added ++ held) [] r new → e.edition ≡ r.journal.edition → AreNext opening 0 (((found ++ added) ++ held) ++ e ∷ []) → need ≡ length (record_text e) + 6 →
    left ≡ r.journal.left → left < need → Took told before found (added ++ held) e.line r old new (Err (JournalFull need left))
took_full told before found added held e need left r old new spends syncs stands edition next need_is left_is short = record {
  entry = e;
  line_is = refl;
  edition_is = edition;
  next = subst (λ xs. AreNext opening 0 (xs ++ e ∷ [])) (append_assoc found added held) next;
  need_is = need_is;
  left_is = left_is;
  short = short;
  stands = stands;
  spends = spends_other before added held old new spends syncs;
}

-- an error that was passed on
pub err_is : {T : Type 0} (result : Result T RegisterNo) (refusal : RegisterNo) → IsErrAnd result (λ e. e ≡ refusal) → result ≡ Err refusal
err_is result refusal is = let q = err_from_is_err_and result is in q.1 ∙ ap (λ (e : RegisterNo). Err e) q.2

-- what taking came to since an earlier moment
pub took_since : (told : Bool) (before : Sight) (found known : List EntryRecord) (line : List ℕ) (r : Register) (old mid new : Sight) (result : Result Unit RegisterNo) → Goes old mid →
    Took told before found known line r mid new result → Took told before found known line r old new result
took_since told before found known line r old mid new (Ok u) goes took = took
took_since told before found known line r old mid new (Err DiskFault) goes took = record {
  more = took.more;
  lines = took.lines;
  gives_up = record { entries = took.gives_up.entries; stops = took.gives_up.stops; goes = took.gives_up.goes; rose = omega (arith, took.gives_up.rose, goes.disk) };
}
took_since told before found known line r old mid new (Err PrintFault) goes took = record {
  more = took.more;
  lines = took.lines;
  in_part = record {
    entries = took.in_part.entries;
    rest = took.in_part.rest;
    text = took.in_part.text;
    stops = took.in_part.stops;
    goes = took.in_part.goes;
    rose = omega (arith, took.in_part.rose, goes.print);
  };
  spends = took.spends;
}
took_since told before found known line r old mid new (Err (JournalFull need left)) goes took = took
took_since told before found known line r old mid new (Err OutOfMemory) goes took = took

-- a full group was brought to the device, with the line's entry as its last one
pub took_last : (told : Bool) (before : Sight) (found added held : List EntryRecord) (e : EntryRecord) (r : Register) (old new : Sight) (result : Result Unit RegisterNo) → Spends 0 before added old →
    64 ≤ length (held ++ e ∷ []) → new.syncs ≤ old.syncs + 2 → e.edition ≡ r.journal.edition → Flushed told before found added (held ++ e ∷ []) r old new result →
    Took told before found (added ++ held) e.line r old new result
took_last told before found added held e r old new (Ok u) spends long syncs edition stands = record {
  entry = e;
  line_is = refl;
  edition_is = edition;
  added = added ++ (held ++ e ∷ []);
  held = [];
  whole = append-nil (added ++ (held ++ e ∷ [])) ∙ sym (append_assoc added held (e ∷ []));
  so_far = record { stands = stands; room = omega arith; spends = spends_full before added (held ++ e ∷ []) old new spends long syncs };
}
took_last told before found added held e r old new (Err DiskFault) spends long syncs edition gives = record {
  more = e ∷ [];
  lines = record { rest = []; parts = refl };
  gives_up = subst (λ xs. GivesUp told before found xs r.journal.edition old new)
      (append_assoc found added (held ++ e ∷ []) ∙ ap (λ xs. found ++ xs) (sym (append_assoc added held (e ∷ []))) ∙ sym (append_assoc found (added ++ held) (e ∷ []))) gives;
}
took_last told before found added held e r old new (Err PrintFault) spends long syncs edition prints = record {
  more = e ∷ [];
  lines = record { rest = []; parts = refl };
  in_part = subst (λ xs. PrintsInPart told before found xs r.journal.tail r.journal.edition old new) (sym (append_assoc added held (e ∷ []))) prints;
  spends = spends_less before ((added ++ held) ++ e ∷ []) new
      (subst (λ xs. Spends 0 before xs new) (sym (append_assoc added held (e ∷ []))) (spends_full before added (held ++ e ∷ []) old new spends long syncs));
}
took_last told before found added held e r old new (Err (JournalFull need left)) spends long syncs edition never = absurd never
took_last told before found added held e r old new (Err OutOfMemory) spends long syncs edition never = absurd never
