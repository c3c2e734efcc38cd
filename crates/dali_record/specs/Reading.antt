use Rattle.std.specs.Prelude.{◌≡◌, ℕ, zero, suc, ◌^◌, Bool, true, not, nat_le, nat_lt, ◌==◌, ◌&&◌, List, [], ◌∷◌, length, take, drop, Option, Some, None, Result, Ok, Err, if◌then◌else◌}
use Rattle.std.specs.List.{list_all}
use Rattle.std.specs.Int.{Width, w16, w64, byte_len, from_be_bytes}
use Rattle.dali_base.specs.Limits.{most_lines, most_multiplier}
use Rattle.dali_tree.specs.declared.fix.Fix.{Fix}
use Rattle.dali_tree.specs.declared.fix.Fix.TheVariants.{Barred, Needed, Safe}
use Rattle.dali_tree.specs.declared.tree.Tree.{Tree}
use Rattle.dali_tree.specs.declared.tree.End.{End}
use Rattle.dali_tree.specs.declared.tree.End.TheVariants as ends
use Rattle.dali_record.specs.declared.refusal.RecordNo.{RecordNo}
use Rattle.dali_record.specs.declared.refusal.RecordNo.TheVariants as errors
use Rattle.dali_record.specs.Multipliers.{behind, multiplier, list_of}

-- Reading from the front: a value and the bytes after it. That each reader is its text both ways is said by `decode`.

infixl 10 ◌>>=◌
abbrev pub ◌>>=◌ : {A B : Type 0} → Option A → (A → Option B) → Option B
None >>= f = None
(Some x) >>= f = f x

-- what a function of the code returned, seen by view, is what reading gives, unless memory ran out
abbrev pub Fails : {Y : Type 0} → RecordNo → Option Y → Type 0
Fails errors.Form read = read ≡ None
Fails errors.OutOfMemory read = Unit {0}

abbrev pub Gives : {X Y : Type 0} → (X → Y) → Result X RecordNo → Option Y → Type 0
Gives view (Ok x) read = read ≡ Some (view x)
Gives view (Err e) read = Fails e read

abbrev pub number_at : Width → List ℕ → Option (ℕ × List ℕ)
number_at w bytes = if nat_lt (length bytes) (byte_len w) then None else Some (from_be_bytes w (take (byte_len w) bytes), drop (byte_len w) bytes)

-- so many items, one after the other
unfoldable pub items_at : {A : Type 0} → (List ℕ → Option (A × List ℕ)) → ℕ → List ℕ → Option (List A × List ℕ)
items_at one zero bytes = Some ([], bytes)
items_at one (suc n) bytes = do
  first ← one bytes
  others ← items_at one n first.1
  Some (first.0 ∷ others.0, others.1)

-- a list: how many items, and the items
unfoldable pub list_at : {A : Type 0} → (List ℕ → Option (A × List ℕ)) → List ℕ → Option (List A × List ℕ)
list_at one bytes = do
  n ← number_at w16 bytes
  items_at one n.0 n.1

unfoldable pub place_at : List ℕ → Option (ℕ × List ℕ)
place_at bytes = number_at w16 bytes

-- a fix with a place and a line
abbrev pub line_fix_at : (ℕ → ℕ → Fix) → List ℕ → Option (Fix × List ℕ)
line_fix_at fix bytes = do
  place ← number_at w16 bytes
  line ← number_at w16 place.1
  Some (fix place.0 line.0, line.1)

unfoldable pub fix_at : List ℕ → Option (Fix × List ℕ)
fix_at [] = None
fix_at (b ∷ bytes) =
    if b == 1 then line_fix_at (λ place line. Barred place line) bytes
    else if b == 2 then line_fix_at (λ place line. Needed place line) bytes
    else if b == 3 then (number_at w16 bytes >>= λ place. Some (Safe place.0, place.1))
    else None

unfoldable pub multiplier_at : List ℕ → Option ((ℕ × ℕ) × List ℕ)
multiplier_at bytes = do
  line ← number_at w16 bytes
  m ← number_at w64 line.1
  Some ((line.0, m.0), m.1)

-- changes on rising lines from one on, each to at most the greatest multiplier
abbrev pub rises_from : ℕ → List (ℕ × ℕ) → Bool
rises_from line [] = true
rises_from line (m ∷ changes) = nat_le line m.0 && nat_lt m.0 most_lines && nat_le m.1 most_multiplier && rises_from (suc m.0) changes

abbrev pub differs : (ℕ → ℕ) → ℕ × ℕ → Bool
differs above m = not (m.1 == above m.0)

-- the multipliers that these changes make of those above, if they are changes
abbrev pub made_of : (ℕ → ℕ) → List (ℕ × ℕ) → Option (List (ℕ × ℕ))
made_of above changes =
    if rises_from 0 changes && list_all (differs above) changes then Some (list_of (behind above changes)) else None

unfoldable pub lam_at : (ℕ → ℕ) → List ℕ → Option (List (ℕ × ℕ) × List ℕ)
lam_at above bytes = do
  changes ← list_at multiplier_at bytes
  lam ← made_of above changes.0
  Some (lam, changes.1)

-- how an end, or a tree, is read where so many branches are left and these are the multipliers of the branch above: with
-- how many branches are left behind it
abbrev pub Reader : Type 0 → Type 0
Reader X = ℕ → (ℕ → ℕ) → List ℕ → Option (X × ℕ × List ℕ)

abbrev pub bound_at : Reader End
bound_at left above bytes = do
  lam ← lam_at above bytes
  Some (ends.Bound lam.0, left, lam.1)

abbrev pub short_at : Reader End
short_at left above bytes = do
  line ← number_at w16 bytes
  Some (ends.Short line.0, left, line.1)

-- a branch, with a way to read its sides
unfoldable pub branch_at : Reader Tree → Reader End
branch_at side zero above bytes = None
branch_at side (suc left) above bytes = do
  place ← number_at w16 bytes
  lam ← lam_at above place.1
  inside ← side left (multiplier lam.0) lam.1
  outside ← side inside.1 (multiplier lam.0) inside.2
  Some (ends.Branch place.0 lam.0 inside.0 outside.0, outside.1, outside.2)

-- an end, with a way to read a branch
unfoldable pub any_end_at : Reader End → Reader End
any_end_at branch left above [] = None
any_end_at branch left above (b ∷ bytes) =
    if b == 4 then bound_at left above bytes
    else if b == 5 then short_at left above bytes
    else if b == 6 then branch left above bytes
    else None

-- a node, with a way to read its end
unfoldable pub node_at : Reader End → Reader Tree
node_at end left above bytes = do
  fixes ← list_at fix_at bytes
  its_end ← end left above fixes.1
  Some (record { fixes = fixes.0; end = its_end.0 }, its_end.1, its_end.2)

abbrev pub no_branch_at : Reader End
no_branch_at left above bytes = None

-- an end on whose paths are at most so many branches
unfoldable pub end_at : ℕ → Reader End
end_at zero = any_end_at no_branch_at
end_at (suc depth) = any_end_at (branch_at (node_at (end_at depth)))

-- a tree on whose paths are at most so many branches
abbrev pub tree_at : ℕ → Reader Tree
tree_at depth = node_at (end_at depth)
