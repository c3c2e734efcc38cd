use Rattle.std.proofs.Common.{sym, subst, arith}
use Rattle.std.proofs.lemmas.Grind.{common_steps}
use Rattle.dali_desk.specs.Input.{Gathers}
use Rattle.dali_desk.proofs.Gathering.{gathers_none}
use Rattle.dali_desk.proofs.input.read_input.Goals as goal

pub pieces-init : goal.pieces-init
pieces-init g c =
    let feed = g.S.Source.feed c.args.source.now in
    record {
      gathers = subst (λ bytes. Gathers g.S.Source.tells c.args.most feed bytes feed) (sym c.new-bytes.ensures) (gathers_none g.S.Source.tells c.args.most feed);
      room = grind (arith, common_steps);
    }

pub pieces-preserved : goal.pieces-preserved
pieces-preserved g c = record {
  gathers = c.in-Ok-true.ensures.gathers (g.S.Source.feed c.args.source.now) c.pieces.invariant.gathers;
  room = grind (arith, common_steps);
}

pub returns-in-Ok-false : goal.returns-in-Ok-false
returns-in-Ok-false g c = record {
  gathers = c.in-Ok-false.ensures.gathers (g.S.Source.feed c.args.source.now) c.pieces.invariant.gathers;
  end = λ t. c.in-Ok-false.ensures.end t c.in-Ok-false.field-0-test;
}

pub returns-in-Err : goal.returns-in-Err
returns-in-Err g c = c.in-Err.ensures.stops (g.S.Source.feed c.args.source.now) c.pieces.invariant.gathers
