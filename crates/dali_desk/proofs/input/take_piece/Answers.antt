use Rattle.std.proofs.Common.{◌∙◌, ◌++◌, ℕ, take, arith, length-append}
use Rattle.std.proofs.lemmas.List.{length-take}
use Rattle.dali_desk.proofs.Gathering.{moves_more}
use Rattle.dali_desk.proofs.input.take_piece.Goals as goal

pub returns-then-len-n-clause-stops : goal.returns-then-len-n-clause-stops
returns-then-len-n-clause-stops g c old so_far =
    let got = take c.in-Ok.n c.take.new.into in
    record {
      taken = c.args.bytes.now ++ got;
      moved = moves_more g.S.Source.tells c.args.most old (g.S.Source.feed c.args.source.now) (g.S.Source.feed c.take.new.self) c.args.bytes.now got so_far
          (λ t. (c.in-Ok.ensures.taken t).moved);
      past = omega (arith, c.in-Ok.ensures.within, c.take.auto.into, c.if-len-n.true, length-append {A = ℕ}, length-take {A = ℕ});
      quiet = c.in-Ok.ensures.quiet ∙ so_far.quiet;
    }
