use Rattle.std.proofs.Common.{◌≡◌, ◌∙◌, ◌-◌, ◌++◌, ℕ, List, [], length, map, take, drop, get_or, set, sym, ap, arith}
use Rattle.std.proofs.lemmas.List.{get_or_read, drop-drop, take_rest}
use Rattle.dali_gateway.specs.Gateway.{Gateway, Box, queue, whole_of, unopened, pending}
use Rattle.dali_gateway.specs.Merge.{merged}
use Rattle.dali_gateway.proofs.Giving.{same_whole, gave, none_open}
use Rattle.dali_gateway.proofs.gate.Gate.give.Goals as goal

pub returns-then-self-gt0-clause-inboxes : goal.returns-then-self-gt0-clause-inboxes
returns-then-self-gt0-clause-inboxes c =
    let boxes = c.self.inside.inboxes.items in
    let at = get_or_read boxes c.self.inside.giver c.index_mut.result.now c.self.invariant.giver c.index_mut.ensures.value (unopened []) in
    same_whole boxes c.self.inside.giver c.give_open.new.inbox (c.give_open.ensures.whole ∙ ap whole_of at) ∙ ap (λ (g : Gateway). g.inboxes) c.self.view_is

pub returns-then-self-gt0-clause-moved : goal.returns-then-self-gt0-clause-moved
returns-then-self-gt0-clause-moved c =
    let boxes = c.self.inside.inboxes.items in
    let giver = c.self.inside.giver in
    let at = get_or_read boxes giver c.index_mut.result.now c.self.invariant.giver c.index_mut.ensures.value (unopened []) in
    ap (λ (g : Gateway). g.left) (sym c.self.view_is)
    ∙ gave boxes giver c.self.inside.ending c.give_open.new.ending c.give_open.new.inbox (take c.give_open.result c.give_open.new.into) (drop c.self.inside.next c.self.inside.turns) c.self.invariant.giver
    (c.give_open.ensures.left ∙ ap (λ (b : Box). b.left) at) (ap (λ (b : Box). pending b.open_ c.self.inside.ending) (sym at) ∙ c.give_open.ensures.moved)

pub returns-in-Some-clause-inboxes : goal.returns-in-Some-clause-inboxes
returns-in-Some-clause-inboxes c =
    let boxes = c.open_next-used.new.inboxes.items in
    let opened = rw c.in-Some.is at c.open_next-used.ensures.some in
    let at = get_or_read boxes c.in-Some.giver c.index_mut-in-Some.result.now opened.0 c.index_mut-in-Some.ensures.value (unopened []) in
    same_whole boxes c.in-Some.giver c.give_open-in-Some.new.inbox (c.give_open-in-Some.ensures.whole ∙ ap whole_of at) ∙ c.open_next-used.ensures.whole ∙ ap (λ (g : Gateway). g.inboxes) c.self.view_is

pub returns-in-Some-clause-moved : goal.returns-in-Some-clause-moved
returns-in-Some-clause-moved c =
    let before = c.self.inside.inboxes.items in
    let boxes = c.open_next-used.new.inboxes.items in
    let giver = c.in-Some.giver in
    let turns = drop c.self.inside.next c.self.inside.turns in
    let used = c.open_next-used.result.0 in
    let opened = rw c.in-Some.is at c.open_next-used.ensures.some in
    let at = get_or_read boxes giver c.index_mut-in-Some.result.now opened.0 c.index_mut-in-Some.ensures.value (unopened []) in
    let later : take (length c.as_slice.result.now - c.self.inside.next) (drop c.self.inside.next c.as_slice.result.now) ≡ turns =
    take_rest c.as_slice.result.now c.self.inside.next ∙ ap (drop c.self.inside.next) c.as_slice.ensures in
    let step : merged (map queue before) turns ≡ pending (get_or boxes giver (unopened [])).open_ 2 ++ merged (map queue boxes) (drop used turns) =
    ap (λ (ts : List ℕ). merged (map queue before) ts) (sym later) ∙ opened.1
    ∙ ap (λ (ts : List ℕ). pending (get_or boxes giver (unopened [])).open_ 2 ++ merged (map queue boxes) (drop used ts)) later in
    ap (λ (g : Gateway). g.left) (sym c.self.view_is)
    ∙ none_open (get_or before c.self.inside.giver (unopened [])).open_ c.self.inside.ending (merged (map queue before) turns) (omega arith)
    ∙ step
    ∙ gave boxes giver 2 c.give_open-in-Some.new.ending c.give_open-in-Some.new.inbox (take c.give_open-in-Some.result c.give_open-in-Some.new.into) (drop used turns) opened.0
    (c.give_open-in-Some.ensures.left ∙ ap (λ (b : Box). b.left) at) (ap (λ (b : Box). pending b.open_ 2) (sym at) ∙ c.give_open-in-Some.ensures.moved)
    ∙ ap (λ (ts : List ℕ). take c.give_open-in-Some.result c.give_open-in-Some.new.into
    ++ (pending (get_or (set boxes giver c.give_open-in-Some.new.inbox) giver (unopened [])).open_ c.give_open-in-Some.new.ending ++ merged (map queue (set boxes giver c.give_open-in-Some.new.inbox)) ts))
    (drop-drop used c.self.inside.next c.self.inside.turns)
