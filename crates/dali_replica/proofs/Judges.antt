-- What a frame is to a history: at most one of the five answers, and what makes each.
use Rattle.std.proofs.Common.{◌≡◌, ◌↔◌, ◌∙◌, inl, inr, ℕ, zero, suc, ◌+◌, ◌<◌, ◌≤◌, List, [], ◌∷◌, ◌++◌, length, Some, None, refl, sym, ap, subst, arith}
use Rattle.std.specs.Prelude.{Result, Ok, Err, IfOk, drop}
use Rattle.std.specs.List.{slice_get}
use Rattle.std.proofs.lemmas.List.{length-append}
use Rattle.dali_base.specs.declared.memory.OutOfMemory.{OutOfMemory}
use Rattle.dali_entry.specs.EntryRecord.{EntryRecord}
use Rattle.dali_machine.specs.History.{HasItsChoice, IsNext, IsLegal, state_of}
use Rattle.dali_machine.specs.Machine.{Machine, opening}
use Rattle.dali_machine.specs.Step.{judged}
use Rattle.dali_record.specs.IsRecord.{IsRecord}
use Rattle.dali_record.proofs.EntryAgain.{one_entry}
use Rattle.dali_recover.specs.Damaged.{last_edition}
use Rattle.dali_recover.proofs.Histories.{next_more, next_there}
use Rattle.dali_replica.specs.Judging.{IsNumbered, GoesOn, ComesNotNext, GoesNotOn, IsNextBy, IsKept, IsAhead, IsOther, IsBad, JudgedSo, JudgedNext}
use Rattle.dali_replica.specs.Stream.{ShippedRecord}
use Rattle.dali_replica.specs.declared.judged.Judged.{Judged}
use Rattle.dali_replica.specs.declared.judged.Judged.TheVariants.{Next, Kept, Ahead, Other, Bad}

-- a record is that of one entry
pub one_record : (bytes : List ℕ) (e d : EntryRecord) → IsRecord bytes e → IsRecord bytes d → e ≡ d
one_record bytes e d first second = one_entry e d first.within second.within (sym first.text ∙ second.text)

-- ---- numbers

pub numbered_bounds : (number : ℕ) (e : EntryRecord) (history : List EntryRecord) → IsNumbered number e history → (1 ≤ number) × (number ≤ length history)
numbered_bounds number e history is =
    let long = ap length is.parts in
    let parts = length-append is.before (e ∷ is.behind) in
    (omega (arith, is.number_is), omega (arith, is.number_is, long, parts))

same_place : (first second behind after : List EntryRecord) (e d : EntryRecord) → first ++ e ∷ behind ≡ second ++ d ∷ after → length first ≡ length second → e ≡ d
same_place [] [] behind after e d same long = cc
same_place [] (x ∷ second) behind after e d same long = absurd (omega (arith, long))
same_place (y ∷ first) [] behind after e d same long = absurd (omega (arith, long))
same_place (y ∷ first) (x ∷ second) behind after e d same long = same_place first second behind after e d (ap (λ (es : List EntryRecord). drop 1 es) same) (omega (arith, long))

pub one_numbered : (number : ℕ) (e d : EntryRecord) (history : List EntryRecord) → IsNumbered number e history → IsNumbered number d history → e ≡ d
one_numbered number e d history first second =
    same_place first.before second.before first.behind second.behind e d (sym first.parts ∙ second.parts) (omega (arith, first.number_is, second.number_is))

-- the entry that a look-up by number gives
record Split (at : ℕ) (e : EntryRecord) (history : List EntryRecord) : Type 0 where
  before : List EntryRecord
  behind : List EntryRecord
  parts : history ≡ before ++ e ∷ behind
  place : at ≡ length before

split_at : (at : ℕ) (e : EntryRecord) (history : List EntryRecord) → Some e ≡ slice_get history at → Split at e history
split_at at e [] is = absurd (cc)
split_at zero e (x ∷ history) is = record { before = []; behind = history; parts = ap (λ (d : EntryRecord). d ∷ history) (cc); place = refl }
split_at (suc at) e (x ∷ history) is =
    let s = split_at at e history is in
    record { before = x ∷ s.before; behind = s.behind; parts = ap (λ (es : List EntryRecord). x ∷ es) s.parts; place = omega (arith, s.place) }

pub numbered_at : (number at : ℕ) (e : EntryRecord) (history : List EntryRecord) → number ≡ at + 1 → Some e ≡ slice_get history at → IsNumbered number e history
numbered_at number at e history number_is is =
    let s = split_at at e history is in
    record { before = s.before; behind = s.behind; parts = s.parts; number_is = omega (arith, number_is, s.place) }

pub past_end : (at : ℕ) (history : List EntryRecord) → None ≡ slice_get history at → length history ≤ at
past_end at [] is = omega arith
past_end zero (x ∷ history) is = absurd (cc)
past_end (suc at) (x ∷ history) is = let later = past_end at history is in omega (arith, later)

-- ---- the entry that comes next

pub comes_next : (edition : ℕ) (history : List EntryRecord) (bytes : List ℕ) (e : EntryRecord) → IsLegal history → IsRecord bytes e → e.edition ≤ edition → last_edition 0 history ≤ e.edition →
    HasItsChoice (state_of history) (judged e.edition (state_of history) e.line) e.choice → GoesOn edition history bytes e
comes_next edition history bytes e legal is most least has = record {
  record_is = is;
  most = most;
  legal = record { entries = next_more opening 0 history e legal.entries (record { line = is.within.line; edition = least; choice = has }) };
}

pub next_of : (history : List EntryRecord) (e : EntryRecord) → IsLegal (history ++ e ∷ []) → IsNext (state_of history) (last_edition 0 history) e
next_of history e legal = next_there opening 0 history e [] legal.entries

pub lacks_choice : (history : List EntryRecord) (e : EntryRecord) → (HasItsChoice (state_of history) (judged e.edition (state_of history) e.line) e.choice → ⊥) → IsLegal (history ++ e ∷ []) → ⊥
lacks_choice history e lacks legal = lacks (next_of history e legal).choice

-- in the state of the history
pub lacks_in : (history : List EntryRecord) (e : EntryRecord) (m : Machine) → m ≡ state_of history → (HasItsChoice m (judged e.edition m e.line) e.choice → ⊥) → IsLegal (history ++ e ∷ []) → ⊥
lacks_in history e m state lacks = lacks_choice history e (subst (λ (x : Machine). HasItsChoice x (judged e.edition x e.line) e.choice → ⊥) state lacks)

pub next_in : (edition : ℕ) (history : List EntryRecord) (bytes : List ℕ) (e : EntryRecord) (m : Machine) → m ≡ state_of history → IsLegal history → IsRecord bytes e → e.edition ≤ edition → last_edition 0 history ≤ e.edition →
    HasItsChoice m (judged e.edition m e.line) e.choice → GoesOn edition history bytes e
next_in edition history bytes e m state legal is most least has =
    comes_next edition history bytes e legal is most least (subst (λ (x : Machine). HasItsChoice x (judged e.edition x e.line) e.choice) state has)

not_next : (edition : ℕ) (history : List EntryRecord) (bytes : List ℕ) (e d : EntryRecord) → GoesOn edition history bytes e → d ≡ e → ComesNotNext edition history d → ⊥
not_next edition history bytes e d goes same (inl above) = absurd (omega (arith, above, ap (λ (x : EntryRecord). x.edition) same, goes.most))
not_next edition history bytes e d goes same (inr (inl below)) =
    let least = (next_of history e goes.legal).edition in
    absurd (omega (arith, below, ap (λ (x : EntryRecord). x.edition) same, least))
not_next edition history bytes e d goes same (inr (inr wrong)) = wrong (subst (λ (x : EntryRecord). IsLegal (history ++ x ∷ [])) (sym same) goes.legal)

not_both : (edition : ℕ) (history : List EntryRecord) (bytes : List ℕ) (e : EntryRecord) → GoesOn edition history bytes e → GoesNotOn edition history bytes → ⊥
not_both edition history bytes e goes (inl none) = none e goes.record_is
not_both edition history bytes e goes (inr wrong) = not_next edition history bytes e wrong.0 goes (one_record bytes wrong.0 e wrong.1 goes.record_is) wrong.2

-- ---- at most one answer

module _ (edition : ℕ) (history : List EntryRecord) (f : ShippedRecord) where
  bad_held : IsBad edition history f → 1 ≤ f.number → f.number ≤ length history → ⊥
  bad_held (inl none) least most = absurd (omega (arith, none, least))
  bad_held (inr next) least most = absurd (omega (arith, next.0, most))

  bad_ahead : IsBad edition history f → length history + 1 < f.number → ⊥
  bad_ahead (inl none) ahead = absurd (omega (arith, none, ahead))
  bad_ahead (inr next) ahead = absurd (omega (arith, next.0, ahead))

  bad_next : (e : EntryRecord) → IsBad edition history f → IsNextBy edition history f e → ⊥
  bad_next e (inl none) next = absurd (omega (arith, none, next.number_is))
  bad_next e (inr wrong) next = not_both edition history f.bytes e next.goes_on wrong.1

  pub kept_bounds : IsKept history f → (1 ≤ f.number) × (f.number ≤ length history)
  kept_bounds is = numbered_bounds f.number is.0 history is.1

  pub other_bounds : IsOther history f → (1 ≤ f.number) × (f.number ≤ length history)
  other_bounds is = numbered_bounds f.number is.0 history is.1

  kept_other : IsKept history f → IsOther history f → ⊥
  kept_other kept other = other.2 (subst (IsRecord f.bytes) (one_numbered f.number kept.0 other.0 history kept.1 other.1) kept.2)

  held_next : (e : EntryRecord) → IsNextBy edition history f e → f.number ≤ length history → ⊥
  held_next e next most = absurd (omega (arith, next.number_is, most))

  held_ahead : IsAhead history f → f.number ≤ length history → ⊥
  held_ahead ahead most = absurd (omega (arith, ahead, most))

  pub one_answer : (a b : Judged) → JudgedSo edition history f a → JudgedSo edition history f b → a ≡ b
  one_answer (Next e) (Next d) first second = ap (λ (x : EntryRecord). Next x) (one_record f.bytes e d first.goes_on.record_is second.goes_on.record_is)
  one_answer (Next e) Kept first second = absurd (held_next e first (kept_bounds second).1)
  one_answer (Next e) Ahead first second = absurd (omega (arith, first.number_is, second))
  one_answer (Next e) Other first second = absurd (held_next e first (other_bounds second).1)
  one_answer (Next e) Bad first second = absurd (bad_next e second first)
  one_answer Kept (Next e) first second = absurd (held_next e second (kept_bounds first).1)
  one_answer Kept Kept first second = refl
  one_answer Kept Ahead first second = absurd (held_ahead second (kept_bounds first).1)
  one_answer Kept Other first second = absurd (kept_other first second)
  one_answer Kept Bad first second = absurd (bad_held second (kept_bounds first).0 (kept_bounds first).1)
  one_answer Ahead (Next e) first second = absurd (omega (arith, first, second.number_is))
  one_answer Ahead Kept first second = absurd (held_ahead first (kept_bounds second).1)
  one_answer Ahead Ahead first second = refl
  one_answer Ahead Other first second = absurd (held_ahead first (other_bounds second).1)
  one_answer Ahead Bad first second = absurd (bad_ahead second first)
  one_answer Other (Next e) first second = absurd (held_next e second (other_bounds first).1)
  one_answer Other Kept first second = absurd (kept_other second first)
  one_answer Other Ahead first second = absurd (held_ahead second (other_bounds first).1)
  one_answer Other Other first second = refl
  one_answer Other Bad first second = absurd (bad_held second (other_bounds first).0 (other_bounds first).1)
  one_answer Bad (Next e) first second = absurd (bad_next e first second)
  one_answer Bad Kept first second = absurd (bad_held first (kept_bounds second).0 (kept_bounds second).1)
  one_answer Bad Ahead first second = absurd (bad_ahead first second)
  one_answer Bad Other first second = absurd (bad_held first (other_bounds second).0 (other_bounds second).1)
  one_answer Bad Bad first second = refl

  -- so an answer comes exactly where what it says is so
  pub exactly : (r : Result Judged OutOfMemory) → IfOk r (JudgedSo edition history f) → (b : Judged) → IfOk r (λ a. (a ≡ b) ↔ JudgedSo edition history f b)
  exactly (Ok a) so b = ((λ is. subst (JudgedSo edition history f) is so), (λ says. one_answer a b so says))
  exactly (Err e) so b = tt

  -- the answer to the bytes behind the last entry is the frame's
  pub by_number : (r : Result Judged OutOfMemory) → f.number ≡ length history + 1 → IfOk r (JudgedNext edition history f.bytes) → IfOk r (JudgedSo edition history f)
  by_number (Err e) number so = tt
  by_number (Ok (Next e)) number so = record { number_is = number; goes_on = so }
  by_number (Ok Kept) number so = absurd so
  by_number (Ok Ahead) number so = absurd so
  by_number (Ok Other) number so = absurd so
  by_number (Ok Bad) number so = inr (number, so)
