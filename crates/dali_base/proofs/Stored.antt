use Rattle.std.proofs.Common.{ℕ, ◌+◌, ◌-◌, ◌≤◌, List, ◌++◌, length, drop, subst, ap, ◌∙◌, sym, arith, length-append}
use Rattle.std.proofs.Math.ListN.{replicate}
use Rattle.std.proofs.Math.Seq.{take-append_seam, drop-append_seam}
use Rattle.std.proofs.lemmas.List.{drop-replicate, length-replicate}
use Rattle.std.proofs.lemmas.Bool.Decides.{nat_tests}
use Rattle.std.specs.Prelude.{IsTrue}
use Rattle.dali_base.specs.Spelling.{is_name}
use Rattle.dali_base.specs.NameBytes.{IsStored}

-- a name copied to the front of twelve zeros is stored
pub is_stored : (name : List ℕ) → length name ≤ 12 → IsTrue (is_name name) →
    IsStored (record { bytes = name ++ drop (length name) (replicate 12 0); len = length name })
is_stored name short told = record {
  room = length-append name (drop (length name) (replicate 12 0))
      ∙ ap (λ zs. length name + length zs) (drop-replicate (length name) 12 0)
      ∙ ap (λ n. length name + n) (length-replicate (12 - length name) 0)
      ∙ omega arith;
  within = short;
  padding = drop-append_seam name (drop (length name) (replicate 12 0)) ∙ drop-replicate (length name) 12 0;
  name = subst (λ bytes. IsTrue (is_name bytes)) (sym (take-append_seam name (drop (length name) (replicate 12 0)))) told;
}

pub is_short : (name : List ℕ) → IsTrue (is_name name) → length name ≤ 12
is_short name told = grind (arith, nat_tests, told)
