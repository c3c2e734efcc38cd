use Rattle.std.proofs.Common.{◌<◌, ◌≤◌, inl, inr, arith}
use Rattle.dali_recover.specs.Damaged.{last_edition}
use Rattle.dali_replica.proofs.Judges.{lacks_in, next_in}
use Rattle.dali_replica.proofs.judging.judge_next.Goals as goal

pub returns-then-edition-entry : goal.returns-then-edition-entry
returns-then-edition-entry c = inr (c.in-Ok.entry, c.in-Ok.ensures.found, inl c.if-edition-entry.true)

pub returns-then-entry-last_edition : goal.returns-then-entry-last_edition
returns-then-entry-last_edition c =
    let below : c.in-Ok.entry.edition < last_edition 0 c.args.found.now = omega (arith, c.if-entry-last_edition.true, c.last_edition.ensures) in
    inr (c.in-Ok.entry, c.in-Ok.ensures.found, inr (inl below))

pub returns-then-not-branch : goal.returns-then-not-branch
returns-then-not-branch c =
    inr (
      c.in-Ok.entry,
      c.in-Ok.ensures.found,
      inr (inr (lacks_in c.args.found.now c.in-Ok.entry c.args.state.now.machine c.requires.state
          (λ has. absurd (cc (c.in_ok-has_its_choice-in-Ok.ensures.1 has, c.if-not-branch.true))))),
    )

pub returns-else-not-branch : goal.returns-else-not-branch
returns-else-not-branch c =
    let least : last_edition 0 c.args.found.now ≤ c.in-Ok.entry.edition = omega (arith, c.if-entry-last_edition.false, c.last_edition.ensures) in
    next_in c.args.edition c.args.found.now c.args.bytes.now c.in-Ok.entry c.args.state.now.machine c.requires.state c.requires.legal c.in-Ok.ensures.found c.if-edition-entry.false least
    (c.in_ok-has_its_choice-in-Ok.ensures.0 c.if-not-branch.false)
