use Rattle.std.proofs.Common.{◌≡◌, ◌∙◌, ℕ, List, [], ◌∷◌, ◌++◌, Option, Some, None, refl, sym, ap, subst, append_assoc, append-nil}
use Rattle.std.specs.List.{All}
use Rattle.std.proofs.lemmas.List.Elements.{All-push, All-nil}
use Rattle.dali_entry.specs.EntryRecord.{EntryRecord}
use Rattle.dali_machine.specs.Cycles.{accepted_cycle}
use Rattle.dali_machine.specs.History.{after_entry, state_after, state_of}
use Rattle.dali_machine.specs.Machine.{Machine, opening}
use Rattle.dali_machine.specs.Step.{judged}
use Rattle.dali_register.specs.Added.{HasFinest, HaveFinest, AreAdded}
use Rattle.dali_register.proofs.Texts.{state_append}

-- one more entry whose choice has the finest parts
have_more : (m : Machine) (entries : List EntryRecord) (e : EntryRecord) → HaveFinest m entries →
    HasFinest (state_after m entries) e.choice (accepted_cycle (judged e.edition (state_after m entries) e.line)) → HaveFinest m (entries ++ e ∷ [])
have_more m [] e have has = (has, tt)
have_more m (x ∷ entries) e have has = (have.0, have_more (after_entry m x) entries e have.1 has)

-- one more entry is added
pub since_more : (edition : ℕ) (found entries : List EntryRecord) (e : EntryRecord) → AreAdded edition found entries → e.edition ≡ edition →
    HasFinest (state_of entries) e.choice (accepted_cycle (judged e.edition (state_of entries) e.line)) → AreAdded edition found (entries ++ e ∷ [])
since_more edition found entries e since own has = record {
  more = since.more ++ e ∷ [];
  parts = ap (λ xs. xs ++ e ∷ []) since.parts ∙ append_assoc found since.more (e ∷ []);
  own = All-push (λ (x : EntryRecord). x.edition ≡ edition) since.more e since.own own;
  finest = have_more (state_of found) since.more e since.finest
      (subst (λ m. HasFinest m e.choice (accepted_cycle (judged e.edition m e.line))) (ap state_of since.parts ∙ state_append opening found since.more) has);
}

-- nothing is added
pub since_none : (edition : ℕ) (found : List EntryRecord) → AreAdded edition found found
since_none edition found = record { more = []; parts = sym (append-nil found); own = All-nil (λ (e : EntryRecord). e.edition ≡ edition); finest = tt }
