use Rattle.std.proofs.Common.{◌≡◌, ◌++◌, take}
use Rattle.std.specs.List.{flat_map}
use Rattle.dali_reply.specs.Reply.{post_line}
use Rattle.dali_reply.proofs.outcome.add_posts.Given as goal

abbrev pub invariant-loop-id : goal.invariant-loop-id
invariant-loop-id l = l.text ≡ l.initial.text ++ flat_map (post_line l.number) (take l.id-index l.ids)
