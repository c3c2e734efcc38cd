use Rattle.std.proofs.Common.{◌≡◌, ◌++◌, take}
use Rattle.std.specs.List.{flat_map}
use Rattle.dali_reply.specs.Reply.{posting_line}
use Rattle.dali_reply.proofs.outcome.add_postings.Given as goal

abbrev pub invariant-loop-row : goal.invariant-loop-row
invariant-loop-row l = l.text ≡ l.initial.text ++ flat_map (posting_line l.number) (take l.row-index l.rows)
