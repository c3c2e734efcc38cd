-- Laws of taking frames: one more frame, and what a history is after them.
use Rattle.std.proofs.Common.{◌≡◌, ◌∙◌, inl, inr, ℕ, ◌≤◌, List, [], ◌∷◌, ◌++◌, sym, ap, subst, arith, append_assoc, append-nil}
use Rattle.std.proofs.lemmas.List.Elements.{All-push}
use Rattle.dali_entry.specs.EntryRecord.{EntryRecord}
use Rattle.dali_machine.specs.History.{IsLegal}
use Rattle.dali_record.specs.IsRecord.{IsWithin}
use Rattle.dali_recover.specs.Spells.{AreEntriesIn}
use Rattle.dali_replica.specs.Judging.{IsNextBy, GoesOn}
use Rattle.dali_replica.specs.Stream.{ShippedRecord}
use Rattle.dali_replica.proofs.Judges.{one_record, kept_bounds}
use Rattle.dali_follow.specs.Takes.{IsPassed, Takes}

-- this list is a front of the whole one
pub record Front {X : Type 0} (front whole : List X) : Type 0 where
  pub rest : List X
  pub parts : whole ≡ front ++ rest

pub whole_front : {X : Type 0} (xs : List X) → Front xs xs
whole_front xs = record { rest = []; parts = sym (append-nil xs) }

-- one more frame
pub takes_more : (edition : ℕ) (found : List EntryRecord) (frames : List ShippedRecord) (all : List EntryRecord) (f : ShippedRecord) (e : EntryRecord) → Takes edition found frames all →
    IsNextBy edition all f e → Takes edition found (frames ++ f ∷ []) (all ++ e ∷ [])
takes_more edition found [] all f e same next =
    inl (e, subst (λ (h : List EntryRecord). IsNextBy edition h f e) same next, ap (λ (h : List EntryRecord). h ++ e ∷ []) same)
takes_more edition found (x ∷ frames) all f e (inl adds) next = inl (adds.0, adds.1, takes_more edition (found ++ adds.0 ∷ []) frames all f e adds.2 next)
takes_more edition found (x ∷ frames) all f e (inr passes) next = inr (passes.0, takes_more edition found frames all f e passes.1 next)

pub takes_past : (edition : ℕ) (found : List EntryRecord) (frames : List ShippedRecord) (all : List EntryRecord) (f : ShippedRecord) → Takes edition found frames all →
    IsPassed all f → Takes edition found (frames ++ f ∷ []) all
takes_past edition found [] all f same passed = inr (subst (λ (h : List EntryRecord). IsPassed h f) same passed, same)
takes_past edition found (x ∷ frames) all f (inl adds) passed = inl (adds.0, adds.1, takes_past edition (found ++ adds.0 ∷ []) frames all f adds.2 passed)
takes_past edition found (x ∷ frames) all f (inr passes) passed = inr (passes.0, takes_past edition found frames all f passes.1 passed)

-- it begins with what it was, and stays legal and within the journal's edition
pub takes_front : (edition : ℕ) (found : List EntryRecord) (frames : List ShippedRecord) (all : List EntryRecord) → Takes edition found frames all → Front found all
takes_front edition found [] all same = record { rest = []; parts = same ∙ sym (append-nil found) }
takes_front edition found (f ∷ frames) all (inl adds) =
    let later = takes_front edition (found ++ adds.0 ∷ []) frames all adds.2 in
    record { rest = adds.0 ∷ later.rest; parts = later.parts ∙ append_assoc found (adds.0 ∷ []) later.rest }
takes_front edition found (f ∷ frames) all (inr passes) = takes_front edition found frames all passes.1

pub takes_legal : (edition : ℕ) (found : List EntryRecord) (frames : List ShippedRecord) (all : List EntryRecord) → IsLegal found → Takes edition found frames all → IsLegal all
takes_legal edition found [] all legal same = subst IsLegal (sym same) legal
takes_legal edition found (f ∷ frames) all legal (inl adds) = let next = adds.1 in takes_legal edition (found ++ adds.0 ∷ []) frames all next.goes_on.legal adds.2
takes_legal edition found (f ∷ frames) all legal (inr passes) = takes_legal edition found frames all legal passes.1

pub held_more : (edition : ℕ) (history : List EntryRecord) (bytes : List ℕ) (e : EntryRecord) → AreEntriesIn edition history → GoesOn edition history bytes e → AreEntriesIn edition (history ++ e ∷ [])
held_more edition history bytes e held goes = record {
  within = All-push IsWithin history e held.within goes.record_is.within;
  editions = All-push (λ (x : EntryRecord). x.edition ≤ edition) history e held.editions goes.most;
}

next_not_passed : (edition : ℕ) (history : List EntryRecord) (f : ShippedRecord) (e : EntryRecord) → IsNextBy edition history f e → IsPassed history f → ⊥
next_not_passed edition history f e next (inl kept) = let most = (kept_bounds edition history f kept).1 in absurd (omega (arith, next.number_is, most))
next_not_passed edition history f e next (inr ahead) = absurd (omega (arith, next.number_is, ahead))

-- at most one history comes of these frames
pub one_taken : (edition : ℕ) (found : List EntryRecord) (frames : List ShippedRecord) (all other : List EntryRecord) → Takes edition found frames all → Takes edition found frames other → all ≡ other
one_taken edition found [] all other first second = first ∙ sym second
one_taken edition found (f ∷ frames) all other (inl adds) (inl also) =
    let one = adds.1 in
    let two = also.1 in
    let same : also.0 ≡ adds.0 = one_record f.bytes also.0 adds.0 two.goes_on.record_is one.goes_on.record_is in
    one_taken edition (found ++ adds.0 ∷ []) frames all other adds.2 (subst (λ (e : EntryRecord). Takes edition (found ++ e ∷ []) frames other) same also.2)
one_taken edition found (f ∷ frames) all other (inl adds) (inr passes) = absurd (next_not_passed edition found f adds.0 adds.1 passes.0)
one_taken edition found (f ∷ frames) all other (inr passes) (inl adds) = absurd (next_not_passed edition found f adds.0 adds.1 passes.0)
one_taken edition found (f ∷ frames) all other (inr passes) (inr also) = one_taken edition found frames all other passes.1 also.1
