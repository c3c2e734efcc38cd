use Rattle.std.proofs.Common.{◌∙◌, ◌+◌, ◌∷◌, take, sym, ap}
use Rattle.std.proofs.lemmas.List.{take_rest}
use Rattle.std.specs.List.{slice_split}
use Rattle.std.specs.Prelude.{◌==◌}
use Rattle.dali_line.proofs.Cuts.{split_some, split_none}
use Rattle.dali_line.proofs.split.split_once.Goals as goal

pub returns-in-Some-clause-some : goal.returns-in-Some-clause-some
returns-in-Some-clause-some c =
    split_some (λ b. b == c.args.byte) c.args.bytes.now c.in-Some.at (sym c.in-Some.ensures)
    ∙ ap (λ behind. take c.in-Some.at c.args.bytes.now ∷ slice_split (λ b. b == c.args.byte) behind)
    (sym (take_rest c.args.bytes.now (c.in-Some.at + 1)))

pub returns-in-None-clause-none : goal.returns-in-None-clause-none
returns-in-None-clause-none c = split_none (λ b. b == c.args.byte) c.args.bytes.now (sym c.in-None.ensures)
