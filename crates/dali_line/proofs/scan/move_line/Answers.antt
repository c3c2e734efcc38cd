use Rattle.std.proofs.Common.{◌≡◌, ◌∙◌, ◌+◌, [], ◌∷◌, ◌++◌, take, drop, sym, ap, subst, append-nil}
use Rattle.dali_line.specs.Open.{StandsFor, InOneLine, IsTooLong}
use Rattle.dali_line.proofs.Ends.{found_newline, no_newline}
use Rattle.dali_line.proofs.scan.move_line.Goals as goal

pub add-requires : goal.add-requires
add-requires c =
    subst (λ bytes. InOneLine (take c.in-Some.at bytes)) (c.bytes.ensures ∙ sym c.bytes-in-Some.ensures)
    (found_newline c.bytes.result.now c.in-Some.at (sym c.in-Some.ensures)).2

pub add-requires-in-None : goal.add-requires-in-None
add-requires-in-None c =
    subst InOneLine (c.bytes.ensures ∙ sym c.bytes-in-None.ensures) (no_newline c.bytes.result.now (sym c.in-None.ensures))

pub returns-in-Ok-clause-met : goal.returns-in-Ok-clause-met
returns-in-Ok-clause-met c told =
    let cut = (found_newline c.bytes.result.now c.in-Some.at (sym c.in-Some.ensures)).1 in
    let same = c.bytes-in-Some.ensures in
    let whole = subst (λ bytes. bytes ≡ take c.in-Some.at bytes ++ 10 ∷ drop (c.in-Some.at + 1) bytes) c.bytes.ensures cut in (
      take c.in-Some.at c.args.block.now,
      whole ∙ ap (λ rest. take c.in-Some.at c.args.block.now ++ 10 ∷ rest) (sym c.consume.ensures),
      λ raw stands. subst (λ bytes. StandsFor (raw ++ take c.in-Some.at bytes) c.add.new.self) same (c.in-Ok.ensures.ok raw stands),
    )

pub returns-in-Err-clause-long : goal.returns-in-Err-clause-long
returns-in-Err-clause-long c raw stands =
    let cut = (found_newline c.bytes.result.now c.in-Some.at (sym c.in-Some.ensures)).1 in
    let same = c.bytes-in-Some.ensures in
    let whole = subst (λ bytes. bytes ≡ take c.in-Some.at bytes ++ 10 ∷ drop (c.in-Some.at + 1) bytes) c.bytes.ensures cut in (
      take c.in-Some.at c.args.block.now,
      10 ∷ drop (c.in-Some.at + 1) c.args.block.now,
      whole,
      subst (λ bytes. IsTooLong (raw ++ take c.in-Some.at bytes)) same (c.in-Err.ensures.long raw stands),
    )

pub returns-in-Err-add-clause-long : goal.returns-in-Err-add-clause-long
returns-in-Err-add-clause-long c raw stands = (
  c.args.block.now,
  [],
  sym (append-nil c.args.block.now),
  subst (λ bytes. IsTooLong (raw ++ bytes)) c.bytes-in-None.ensures (c.in-Err-add.ensures.long raw stands),
)
