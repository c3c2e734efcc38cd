use Rattle.dali_desk.proofs.Blocks.{opened_valid}
use Rattle.dali_desk.proofs.day.run_day.Goals as goal

pub returns : goal.returns
returns g c = record {
  end = c.take_day.result;
  status_is = c.status_of_day.ensures;
  day = c.take_day.ensures.day;
  promises = c.take_day.ensures.promises;
  blocks = opened_valid g.S.Source.tells g.T.Site.tells _ _ _ _ _;
}
