use Rattle.std.specs.Prelude.{◌≡◌, ℕ, ◌-◌, ◌≤◌, List, ◌++◌, length, take, drop, replicate, IsTrue}
use Rattle.std.proofs.Common.{ap, ◌∙◌, sym, arith}
use Rattle.std.proofs.lemmas.List.{length-take-le, take-append-drop}
use Rattle.dali_base.specs.Limits.{most_name}
use Rattle.dali_base.specs.Spelling.{is_name}
use Rattle.dali_base.specs.declared.name.Name.TheInside.{Inside}

-- the bytes of a name
abbrev pub name_bytes : Inside → List ℕ
name_bytes a = take a.len a.bytes

-- a name's bytes stand in front, and zeros behind them
pub record IsStored (a : Inside) : Type 0 where
  pub room : length a.bytes ≡ most_name
  pub within : a.len ≤ most_name
  pub padding : drop a.len a.bytes ≡ replicate (most_name - a.len) 0
  pub name : IsTrue (is_name (name_bytes a))

-- the fields that a name's bytes are stored in
abbrev pub name_of : List ℕ → Inside
name_of bytes = record { bytes = bytes ++ replicate (most_name - length bytes) 0; len = length bytes }

pub name_back : (a : Inside) → IsStored a → name_of (name_bytes a) ≡ a
name_back a h =
    let fits : a.len ≤ length a.bytes = omega (arith, h.room, h.within) in
    let len : length (take a.len a.bytes) ≡ a.len = length-take-le a.len a.bytes fits in
    let bytes : take a.len a.bytes ++ replicate (most_name - length (take a.len a.bytes)) 0 ≡ a.bytes =
    ap (λ n. take a.len a.bytes ++ replicate (most_name - n) 0) len
    ∙ ap (λ zs. take a.len a.bytes ++ zs) (sym h.padding)
    ∙ take-append-drop a.len a.bytes in
    ap (λ (bs : List ℕ). record { bytes = bs; len = length (take a.len a.bytes) }) bytes
    ∙ ap (λ (n : ℕ). record { bytes = a.bytes; len = n }) len
