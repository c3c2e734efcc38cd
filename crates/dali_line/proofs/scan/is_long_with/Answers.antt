use Rattle.std.proofs.Common.{◌++◌, [], ◌∷◌, subst}
use Rattle.dali_line.specs.Lines.{IsLong}
use Rattle.dali_line.proofs.Scanning.{not_long, newline_not_long}
use Rattle.dali_line.proofs.scan.is_long_with.Goals as goal

pub returns-then-byte-eq10-clause-short : goal.returns-then-byte-eq10-clause-short
returns-then-byte-eq10-clause-short c raw stands told long =
    newline_not_long raw c.args.line.now stands (subst (λ b. IsLong (raw ++ b ∷ [])) c.if-byte-eq10.true long)

pub returns-in-Ok-clause-short : goal.returns-in-Ok-clause-short
returns-in-Ok-clause-short c raw stands told = not_long _ c.add.new.self (c.in-Ok.ensures.ok raw stands)
