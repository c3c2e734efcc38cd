use Rattle.std.proofs.Common.{refl, arith}
use Rattle.dali_recover.proofs.Parts.{unwritten}
use Rattle.dali_recover.proofs.piece.PieceSite.write.Goals as goal

pub returns-clause-disk : goal.returns-clause-disk
returns-clause-disk g c told =
    let all = c.size-size.ensures.told told in
    unwritten c.args._at c.args._piece.now _ _ (omega (arith, c.requires, all.bytes)) all.bytes refl refl refl
