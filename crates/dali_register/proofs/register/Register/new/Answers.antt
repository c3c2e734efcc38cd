use Rattle.std.proofs.Common.{◌≤◌, subst}
use Rattle.dali_register.proofs.Starting.{so_far_start}
use Rattle.dali_register.proofs.register.Register.new.Goals as goal

pub returns-clause-starts : goal.returns-clause-starts
returns-clause-starts c told before found sight starts = so_far_start told before found
    (record { state = c.args.state; journal = c.args.journal; group = c.in_ok-group.group; replies = c.new-2.result; alloc = c.args.alloc }) sight starts (subst (λ n. 1 ≤ n) c.left-left.ensures.value c.left-left.ensures.some) c.in_ok-group.ensures c.new-2.ensures
