use Rattle.std.specs.Prelude.{◌≡◌, ℕ, ◌≤◌, IsTrue, List, IfSome}
use Rattle.std.specs.List.{sum_by}
use Rattle.dali_base.specs.Limits.{newest_edition, most_items, most_lines, most_budget}
use Rattle.dali_line.specs.Line.{is_line}
use Rattle.dali_tree.specs.declared.choice.Part.{Part}
use Rattle.dali_tree.specs.declared.choice.Choice.{Choice}
use Rattle.dali_tree.specs.Tree.{branch_count}
use Rattle.dali_tree.specs.Fits.{Fits}
use Rattle.dali_entry.specs.EntryRecord.{EntryRecord}
use Rattle.dali_record.specs.RecordText.{record_text}

-- the branches of the trees of parts
abbrev pub branches_of : List Part → ℕ
branches_of parts = sum_by (λ part. branch_count part.tree) parts

-- a choice that a record can have: it fits the greatest problem, and has at most as many branches as the greatest budget
pub record IsChoiceWithin (choice : Choice) : Type 0 where
  pub fits : Fits most_items most_lines choice
  pub branches : branches_of choice.parts ≤ most_budget

-- the bounds of an entry that has a record
pub record IsWithin (e : EntryRecord) : Type 0 where
  pub first : 1 ≤ e.edition
  pub newest : e.edition ≤ newest_edition
  pub line : IsTrue (is_line e.line)
  pub choice : IfSome e.choice IsChoiceWithin

-- these bytes are the record of this entry
pub record IsRecord (bytes : List ℕ) (e : EntryRecord) : Type 0 where
  pub within : IsWithin e
  pub text : bytes ≡ record_text e
