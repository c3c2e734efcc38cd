use Rattle.std.proofs.Common.{◌≡◌, ◌∙◌, true, false, refl, ap, subst, arith}
use Rattle.dali_outside.specs.Stops.{LeavesOnly}
use Rattle.dali_statement.specs.Export.{table}
use Rattle.dali_upkeep.specs.Printing.{LeavesFront, PrintsOf}
use Rattle.dali_upkeep.specs.declared.export.ExportEnd.TheVariants.{Done, PrintFault}
use Rattle.dali_upkeep.proofs.Putting.{front_start, goes_nowhere, put_whole, put_part, put_front}
use Rattle.dali_upkeep.proofs.export.print_table.Goals as goal

pub returns-in_default : goal.returns-in_default
returns-in_default g c =
    let s = g.T.Site.sight c.args.site.now in
    record {
      ends = tt;
      told = c.size-size.ensures.told;
      disk = λ told. record { bytes = refl; loose = refl };
      prints = λ told. refl;
      stops = λ told. front_start (table c.args.state.now.machine.postings) s;
      goes = goes_nowhere s;
      syncs = omega arith;
    }

pub returns-in-Ok-put : goal.returns-in-Ok-put
returns-in-Ok-put g c =
    let old = g.T.Site.sight c.args.site.now in
    let new = g.T.Site.sight c.put.new.self in
    let text : c.bytes.result.now ≡ table c.args.state.now.machine.postings = c.bytes.ensures ∙ c.in-Ok.ensures ∙ ap table c.ledger.ensures.ledger in
    record {
      ends = tt;
      told = c.size-size.ensures.told;
      disk = c.put.ensures.disk;
      prints = λ told. subst (λ t. PrintsOf Done t old new) text (put_whole c.bytes.result.now old new (c.in-Ok-put.ensures.text told));
      stops = λ told. subst (λ t. LeavesOnly (LeavesFront t old) old new) text (put_front true c.bytes.result.now old new (c.in-Ok-put.ensures.text told) (c.put.ensures.disk told));
      goes = c.put.ensures.goes;
      syncs = c.put.ensures.syncs;
    }

pub returns : goal.returns
returns g c =
    let old = g.T.Site.sight c.args.site.now in
    let new = g.T.Site.sight c.put.new.self in
    let text : c.bytes.result.now ≡ table c.args.state.now.machine.postings = c.bytes.ensures ∙ c.in-Ok.ensures ∙ ap table c.ledger.ensures.ledger in
    record {
      ends = c.in-Err.ensures.failed;
      told = c.size-size.ensures.told;
      disk = c.put.ensures.disk;
      prints = λ told. subst (λ t. PrintsOf PrintFault t old new) text (put_part c.bytes.result.now old new (c.in-Err.ensures.text told));
      stops = λ told. subst (λ t. LeavesOnly (LeavesFront t old) old new) text (put_front false c.bytes.result.now old new (c.in-Err.ensures.text told) (c.put.ensures.disk told));
      goes = c.put.ensures.goes;
      syncs = c.put.ensures.syncs;
    }
