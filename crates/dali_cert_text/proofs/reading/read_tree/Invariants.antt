use Rattle.std.proofs.Common.{◌≡◌, ◌≤◌, ℕ, List, [], length}
use Rattle.dali_tree.specs.declared.choice.Part.{Part}
use Rattle.dali_cert_text.specs.Stages.{Setting, Growing, Goes}
use Rattle.dali_cert_text.proofs.reading.read_tree.Given as goal

abbrev pub invariant-rows : goal.invariant-rows
invariant-rows l = record {
  led : (s : Setting) (parts : List Part) (bound : ℕ) (members : List ℕ) → length s.problem.items ≡ l.items → length s.problem.lines ≡ l.lines →
      Goes (Growing s parts bound members [] []) l.initial.unread (Growing s parts bound members l.frames l.fixes) l.unread;
  less : length l.unread.text ≤ length l.initial.unread.text;
}

abbrev pub decreases-rows : goal.decreases-rows
decreases-rows l = length l.unread.text
