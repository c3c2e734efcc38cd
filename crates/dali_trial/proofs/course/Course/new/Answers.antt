use Rattle.std.proofs.Common.{[], ap}
use Rattle.dali_machine.specs.Machine.{Machine}
use Rattle.dali_trial.proofs.Trying.{tried_none}
use Rattle.dali_trial.proofs.course.Course.new.Goals as goal

pub returns : goal.returns
returns c = record {
  history = [];
  tried = tried_none;
  machine = c.new.ensures;
  tally = c.new-2.ensures.tally;
  taken = ap (λ (m : Machine). m.commands) c.new.ensures;
  answered = c.new-2.ensures.counted;
}
