use Rattle.std.proofs.Common.{◌≡◌, ◌≤◌, ◌∙◌, List, ℕ, ◌++◌, length, take, drop, sym, ap, subst, arith, Bool, true, false, cond, Some, None}
use Rattle.std.proofs.Math.ListN.{replicate}
use Rattle.std.proofs.Math.Seq.{take-append_seam}
use Rattle.std.specs.Prelude.{IsTrue}
use Rattle.dali_base.specs.Spelling.{is_name}
use Rattle.dali_base.specs.NameBytes.{IsStored}
use Rattle.dali_base.specs.Readers.{spelled_name}
use Rattle.dali_base.proofs.name.read_name.Goals as goal
use Rattle.dali_base.proofs.Stored.{is_stored, is_short}

pub invariant_of-result : goal.invariant_of-result
invariant_of-result c =
    let told : IsTrue (is_name c.args.bytes.now) = sym c.is_name_text.ensures ∙ c.if-not-is_name_text.false in
    subst (λ (bytes : List ℕ). IsStored (record { bytes = bytes ++ drop (length c.args.bytes.now) (replicate 12 0); len = length c.args.bytes.now }))
    (sym c.copy_from_slice.ensures.after)
    (is_stored c.args.bytes.now (is_short c.args.bytes.now told) told)

pub returns-then-not-is_name_text-clause-exact : goal.returns-then-not-is_name_text-clause-exact
unfolding spelled_name
returns-then-not-is_name_text-clause-exact c =
    let told : is_name c.args.bytes.now ≡ false = sym c.is_name_text.ensures ∙ c.if-not-is_name_text.true in
    sym (ap (λ (t : Bool). cond t (Some c.args.bytes.now) None) told)

pub returns-clause-exact : goal.returns-clause-exact
unfolding spelled_name
returns-clause-exact c =
    let told : is_name c.args.bytes.now ≡ true = sym c.is_name_text.ensures ∙ c.if-not-is_name_text.false in
    let name = c.args.bytes.now in
    let stored : take (length name) (c.copy_from_slice.new.self ++ drop (length name) (replicate 12 0)) ≡ name =
    ap (λ (bs : List ℕ). take (length name) (bs ++ drop (length name) (replicate 12 0))) c.copy_from_slice.ensures.after
    ∙ take-append_seam name (drop (length name) (replicate 12 0)) in
    ap (λ (bs : List ℕ). Some bs) stored ∙ sym (ap (λ (t : Bool). cond t (Some name) None) told)
