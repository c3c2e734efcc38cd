use Rattle.std.proofs.Common.{sym, eqb}
use Rattle.dali_cert_text.proofs.Pieces.{cut_some, split_none}
use Rattle.dali_cert_text.proofs.split.cut.Goals as goal

pub returns-in-Some-clause-pieces : goal.returns-in-Some-clause-pieces
returns-in-Some-clause-pieces c = rw (c.split_at.ensures.front, c.split_at.ensures.back) (cut_some c.args.bytes.now c.in-Some.at (sym c.in-Some.ensures))

pub returns-in-None-clause-pieces : goal.returns-in-None-clause-pieces
returns-in-None-clause-pieces c = split_none (λ b. eqb b 44) c.args.bytes.now (sym c.in-None.ensures)
