use Rattle.std.proofs.Common.{◌≡◌, ◌∙◌, true, refl, sym, ap, subst}
use Rattle.dali_desk.specs.DayOver.{DayOver}
use Rattle.dali_desk.proofs.Twice.{runs_twice, over_told}
use Rattle.dali_desk.proofs.rerun.again.Goals as goal

pub run-two-requires : goal.run-two-requires
run-two-requires g c = record { size = λ size job. (c.run-one.ensures.init size job).1.goes.same_size ∙ c.requires.size size job }

pub returns : goal.returns
returns g c = record {
  twice = λ job s r t left premise.
      runs_twice (g.S.Source.feed c.args.first.now) (g.S.Source.feed c.run-one.new.day) (g.R.Source.feed c.args.second.now) (g.R.Source.feed c.run-two.new.day)
      (g.T.Site.sight c.args.site.now) (g.T.Site.sight c.run-one.new.site) (g.T.Site.sight c.run-two.new.site) c.run-one.result c.run-two.result left premise
      (over_told g.S.Source.tells g.T.Site.tells (g.S.Source.feed c.args.first.now) (g.S.Source.feed c.run-one.new.day) (g.T.Site.sight c.args.site.now) (g.T.Site.sight c.run-one.new.site) c.run-one.result s t (c.run-one.ensures.day job))
      (over_told g.R.Source.tells g.T.Site.tells (g.R.Source.feed c.args.second.now) (g.R.Source.feed c.run-two.new.day) (g.T.Site.sight c.run-one.new.site) (g.T.Site.sight c.run-two.new.site) c.run-two.result r t (c.run-two.ensures.day job));
}
