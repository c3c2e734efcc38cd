use Rattle.std.specs.Prelude.{◌≡◌, ℕ, ◌-◌, ◌≤◌, List, length, take, drop}
use Rattle.dali_line.specs.declared.block.Block.TheInside.{Inside}

-- the bytes of a block from its start to its end
abbrev pub pending_of : Inside → List ℕ
pending_of a = take (a.end - a.start) (drop a.start a.bytes.items)

pub record IsBlock (a : Inside) : Type 0 where
  pub order : a.start ≤ a.end
  pub within : a.end ≤ length a.bytes.items
  pub room : length a.bytes.items ≡ 65536
