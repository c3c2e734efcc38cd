-- What each ending leaves.
use Rattle.std.proofs.Common.{◌≡◌, ◌∙◌, inl, inr, ℕ, true, List, ◌++◌, length, refl, ap, subst}
use Rattle.dali_journal.specs.declared.refusal.Damage.{Damage}
use Rattle.dali_outside.specs.Outside.{Feed, Sight}
use Rattle.dali_outside.proofs.Images.{own_left}
use Rattle.dali_recover.proofs.Damages.{not_damaged}
use Rattle.dali_upkeep.specs.Editions.{SpellsIn}
use Rattle.dali_upkeep.specs.RaiseRun.{EachAtStart, SpellsOne}
use Rattle.dali_upkeep.proofs.Editing.{spells_at}
use Rattle.dali_follow.specs.Endings.{LeavesTaken, HoldsAll, Leaves}
use Rattle.dali_follow.specs.FollowRun.{Because, TakesStream, HasAtRest, Opened, FollowRun}
use Rattle.dali_follow.specs.Held.{held_text}
use Rattle.dali_follow.specs.declared.end.FollowEnd.{FollowEnd}
use Rattle.dali_follow.specs.declared.end.FollowEnd.TheVariants.{Done, ReadFault, PrintFault, DiskFault, Damaged, OtherDay, BadFrame, LongFile, JournalFull, OutOfMemory}
use Rattle.dali_follow.proofs.Prefixes.{all_read}

-- where a legal history stands at the start, no damage is found
pub run_undamaged : (old new : Feed) (before after : Sight) (place : ℕ) (why : Damage) → EachAtStart before SpellsOne → FollowRun true true old new before after (Damaged place why) → ⊥
run_undamaged old new before after place why premise run =
    let one : SpellsOne before.bytes = premise before.bytes before.printed (own_left before (run.told refl)) in
    not_damaged before.bytes one.history place why one.legal (run.damaged refl place why refl)

module _ (old new : Feed) (before after : Sight) (end : FollowEnd) (o : Opened true true old new before after end) (no_disk : end ≡ DiskFault → ⊥) where
  rests : HasAtRest o.edition o.follows.all after
  rests = o.follows.rest refl no_disk

  spelled_now : SpellsIn o.edition o.follows.all after.bytes
  spelled_now = let at = rests in spells_at at.tail o.edition o.follows.all after.bytes o.follows.held o.follows.legal at.rest.holds

  leaves_taken : after.printed ≡ o.mid.printed → LeavesTaken old new before after end
  leaves_taken silent = record {
    edition = o.edition;
    found = o.found;
    spelled = o.spelled refl;
    frames = o.follows.frames;
    history = o.follows.all;
    takes = o.follows.takes;
    spells = spelled_now;
    firm = let at = rests in at.rest.firm;
    input = o.follows.input refl;
    because = subst (λ n. Because true old n o.follows.all o.follows.frames o.edition end) o.goes.same_size o.follows.because;
    silent = silent ∙ (o.finds refl).silent;
  }

done_leaves : (old new : Feed) (before after : Sight) → Opened true true old new before after Done → HoldsAll old.left before after
done_leaves old new before after o =
    let input : TakesStream old new o.follows.frames Done = o.follows.input refl in
    let at : HasAtRest o.edition o.follows.all after = o.follows.rest refl (λ is. absurd (cc is)) in
    record {
      edition = o.edition;
      found = o.found;
      spelled = o.spelled refl;
      frames = o.follows.frames;
      whole = all_read old new o.follows.frames input.taken input.moved input.at;
      history = o.follows.all;
      takes = o.follows.takes;
      spells = spelled_now old new before after Done o (λ is. absurd (cc is));
      firm = at.rest.firm;
      text = o.follows.text refl ∙ ap (λ (bs : List ℕ). bs ++ held_text (length o.follows.all)) (o.finds refl).silent;
    }

pub run_leaves : (old new : Feed) (before after : Sight) (end : FollowEnd) → EachAtStart before SpellsOne → FollowRun true true old new before after end → Leaves old new before after end
run_leaves old new before after Done premise run = elim run.came [
  | inl u ↦ absurd u.ends
  | inr o ↦ done_leaves old new before after o
]
run_leaves old new before after ReadFault premise run = elim run.came [
  | inl u ↦ absurd u.ends
  | inr o ↦ leaves_taken old new before after ReadFault o (λ is. absurd (cc is)) (o.follows.text refl)
]
run_leaves old new before after PrintFault premise run = tt
run_leaves old new before after DiskFault premise run = tt
run_leaves old new before after (Damaged place why) premise run = absurd (run_undamaged old new before after place why premise run)
run_leaves old new before after (OtherDay k) premise run = elim run.came [
  | inl u ↦ absurd u.ends
  | inr o ↦ leaves_taken old new before after (OtherDay k) o (λ is. absurd (cc is)) (o.follows.text refl)
]
run_leaves old new before after (BadFrame place) premise run = elim run.came [
  | inl u ↦ absurd u.ends
  | inr o ↦ leaves_taken old new before after (BadFrame place) o (λ is. absurd (cc is)) (o.follows.text refl)
]
run_leaves old new before after LongFile premise run = elim run.came [
  | inl u ↦ absurd u.ends
  | inr o ↦ leaves_taken old new before after LongFile o (λ is. absurd (cc is)) (o.follows.text refl)
]
run_leaves old new before after (JournalFull need left) premise run = elim run.came [
  | inl u ↦ absurd u.ends
  | inr o ↦ leaves_taken old new before after (JournalFull need left) o (λ is. absurd (cc is)) (o.follows.text refl)
]
run_leaves old new before after OutOfMemory premise run = elim run.came [
  | inl u ↦ inl (record { unwritten = u.unwritten refl; silent = u.silent refl })
  | inr o ↦ inr (leaves_taken old new before after OutOfMemory o (λ is. absurd (cc is)) (o.follows.text refl))
]
