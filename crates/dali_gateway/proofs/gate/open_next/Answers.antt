use Rattle.std.proofs.Common.{◌≡◌, ◌∙◌, ◌<◌, ◌+◌, ◌++◌, ℕ, List, [], ◌∷◌, length, map, drop, get_or, set, sym, ap, arith}
use Rattle.std.proofs.lemmas.List.{get_or_read, get_or-set_same, length-set, drop_more}
use Rattle.std.proofs.lemmas.List.Elements.{All-get_or}
use Rattle.dali_line.specs.Commands.{commands}
use Rattle.dali_gateway.specs.Gateway.{Box, queue, whole_of, unopened, pending}
use Rattle.dali_gateway.specs.Merge.{merged}
use Rattle.dali_gateway.proofs.Giving.{same_whole}
use Rattle.dali_gateway.proofs.Turns.{turn_some}
use Rattle.dali_gateway.proofs.gate.open_next.Goals as goal

pub returns-then-open-clause-whole : goal.returns-then-open-clause-whole
returns-then-open-clause-whole c =
    let boxes = c.loop-at.inboxes.items in
    let turn = get_or c.args.turns.now c.loop-at.at 0 in
    let known : turn < length c.args.inboxes.now.items = All-get_or (λ t. t < length c.args.inboxes.now.items) c.args.turns.now c.loop-at.at 0 c.loop-at-test.true c.requires in
    let within : turn < length boxes = omega (arith, known, c.loop-at.invariant.long) in
    let at = get_or_read boxes turn c.index_mut.result.now within c.index_mut.ensures.value (unopened []) in
    same_whole boxes turn c.open.new.self (c.open.ensures.whole ∙ ap whole_of at) ∙ c.loop-at.invariant.whole

pub returns-then-open-clause-some : goal.returns-then-open-clause-some
returns-then-open-clause-some c =
    let boxes = c.loop-at.inboxes.items in
    let turns = c.args.turns.now in
    let turn = get_or turns c.loop-at.at 0 in
    let box = c.open.new.self in
    let later = drop (c.loop-at.at + 1) turns in
    let known : turn < length c.args.inboxes.now.items = All-get_or (λ t. t < length c.args.inboxes.now.items) turns c.loop-at.at 0 c.loop-at-test.true c.requires in
    let within : turn < length boxes = omega (arith, known, c.loop-at.invariant.long) in
    let at = get_or_read boxes turn c.index_mut.result.now within c.index_mut.ensures.value (unopened []) in
    let found : commands (get_or boxes turn (unopened [])).left ≡ box.open_ ∷ commands box.left = ap (λ (b : Box). commands b.left) (sym at) ∙ c.open.ensures.some c.if-open.true in (
      omega (arith, within, length-set boxes turn box),
      c.loop-at.invariant.same
          ∙ ap (λ (ts : List ℕ). merged (map queue boxes) ts) (drop_more turns c.loop-at.at 0 c.loop-at-test.true)
          ∙ turn_some boxes turn later box found
          ∙ ap (λ (b : Box). pending b.open_ 2 ++ merged (map queue (set boxes turn box)) later) (sym (get_or-set_same boxes turn box (unopened []) within)),
    )
