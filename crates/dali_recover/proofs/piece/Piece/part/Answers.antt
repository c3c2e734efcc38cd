use Rattle.std.proofs.Common.{◌-◌, arith}
use Rattle.dali_recover.proofs.Parts.{part_stands}
use Rattle.dali_recover.proofs.piece.Piece.part.Goals as goal

pub returns-clause-stand : goal.returns-clause-stand
returns-clause-stand g c told =
    part_stands c.args.self.now.from c.args.at c.args.len (c.args.at - c.args.self.now.from) c.args.self.now.bytes.now (g.T.Site.sight c.args.self.now.site.now).bytes (c.args.self.now.stand told)
    (omega (arith, c.if-at-self.false)) (omega (arith, c.if-self-first.false, c.if-self-first-2.false))
