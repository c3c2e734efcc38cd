use Rattle.std.proofs.Common.{◌≢◌, pos, rules}
use Rattle.dali_queue.proofs.changes.push_change.Goals as goal

pub push-requires-clause-after : goal.push-requires-clause-after
push-requires-clause-after c = let some : c.args.delta.now ≢ pos 0 = search rules in c.requires some
