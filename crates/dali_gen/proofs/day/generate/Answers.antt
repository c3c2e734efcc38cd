use Rattle.dali_gen.proofs.Days.{day_text, day_count}
use Rattle.dali_gen.proofs.day.generate.Goals as goal

pub returns-in_err-prices-clause-lines : goal.returns-in_err-prices-clause-lines
returns-in_err-prices-clause-lines c = day_count c.args.n

pub returns-in_err-add_opening-clause-lines : goal.returns-in_err-add_opening-clause-lines
returns-in_err-add_opening-clause-lines c = day_count c.args.n

pub returns-in_err-add_groups-clause-lines : goal.returns-in_err-add_groups-clause-lines
returns-in_err-add_groups-clause-lines c = day_count c.args.n

pub returns-in_err-add-clause-lines : goal.returns-in_err-add-clause-lines
returns-in_err-add-clause-lines c = day_count c.args.n

pub returns-clause-exact : goal.returns-clause-exact
returns-clause-exact c =
    day_text c.args.n c.new-text.result c.add_opening.new.text c.add_groups.new.text c.add.new.self c.new-text.ensures c.in_ok-add_opening.ensures
    c.in_ok-add_groups.ensures c.in_ok-add.ensures.ok

pub returns-clause-lines : goal.returns-clause-lines
returns-clause-lines c = day_count c.args.n
