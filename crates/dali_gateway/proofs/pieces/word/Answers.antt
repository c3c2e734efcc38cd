use Rattle.std.proofs.Common.{arith}
use Rattle.dali_gateway.proofs.Readers.{word_left}
use Rattle.dali_gateway.proofs.pieces.word.Goals as goal

pub returns-then-same-word-clause-form : goal.returns-then-same-word-clause-form
returns-then-same-word-clause-form c =
    word_left c.args.bytes.now c.args.word.now c.agreeing-same.result c.agreeing-same.ensures.front c.agreeing-same.ensures.bytes (omega arith) c.agreeing-same.ensures.stops
