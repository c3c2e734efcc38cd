use Rattle.std.proofs.Common.{◌≡◌, refl, sym, ap, subst}
use Rattle.std.specs.Prelude.{Err}
use Rattle.dali_gen.specs.Day.{generated}
use Rattle.dali_put.specs.PutRun.{PutRun}
use Rattle.dali_put.specs.declared.refusal.PutNo.TheVariants as puts
use Rattle.dali_put.proofs.Stopping.{put_nothing}
use Rattle.dali_desk.proofs.upkeep.run_gen.Goals as goal

pub returns-in_default : goal.returns-in_default
returns-in_default g c = record {
  end = Err puts.OutOfMemory;
  status_is = refl;
  run = put_nothing g.T.Site.tells (generated c.args.n) (g.T.Site.sight c.args.site.now);
}
