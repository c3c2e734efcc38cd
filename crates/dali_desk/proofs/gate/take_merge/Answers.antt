use Rattle.std.proofs.Common.{inl, inr, true, refl, ap, subst}
use Rattle.std.specs.Prelude.{Err}
use Rattle.dali_desk.specs.DayOver.{DayOver}
use Rattle.dali_desk.specs.GateOver.{unfailing}
use Rattle.dali_desk.specs.declared.status.Status.TheVariants.{NoGate}
use Rattle.dali_desk.proofs.Merging.{over_merge}
use Rattle.dali_desk.proofs.gate.take_merge.Goals as goal

pub returns-in-Ok : goal.returns-in-Ok
returns-in-Ok g c =
    let before = g.T.Site.sight c.args.site.now in
    let after = g.T.Site.sight c.run_day.new.site in
    let gate = c.in-Ok.gate in
    inr (inl (record {
      inboxes = gate.inboxes;
      turns = gate.turns;
      gate = c.in-Ok.ensures.found;
      day = over_merge g.T.Site.tells gate.inboxes gate.turns c.run_day.new.source.left before after c.run_day.result
          (subst (λ left. DayOver true g.T.Site.tells (unfailing left) (unfailing c.run_day.new.source.left) before after c.run_day.result) c.in-Ok.ensures.merge c.run_day.ensures);
    }))

pub returns-in-Err-Form : goal.returns-in-Err-Form
returns-in-Err-Form g c = inl (record {
  place = c.in-Err-Form.place;
  form = c.in-Err-Form.ensures.form c.in-Err-Form.place (ap Err c.in-Err-Form.field-0-is);
  said = ap NoGate c.in-Err-Form.place-is;
  untouched = refl;
})
