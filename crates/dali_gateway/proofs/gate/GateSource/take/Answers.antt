use Rattle.std.proofs.Common.{◌∙◌, ◌≤◌, ◌-◌, ◌++◌, ℕ, List, length, take, sym, ap, arith}
use borrow.Rule.Slice.PartMut.{post_of}
use Rattle.dali_gateway.proofs.Giving.{filled_more, filled_within, left_more}
use Rattle.dali_gateway.proofs.gate.GateSource.take.Goals as goal

pub pieces-preserved : goal.pieces-preserved
pieces-preserved c =
    let into = c.pieces.into in
    let piece = c.give-n.new.into in
    let behind = post_of c.pieces.filled (length into - c.pieces.filled) into in
    let n = c.give-n.result in
    let room : n ≤ length piece = omega (arith, c.give-n.ensures.room, c.give-n.ensures.within) in
    record {
      within = filled_within into piece behind c.pieces.filled n c.pieces.invariant.within room;
      inboxes = c.give-n.ensures.inboxes ∙ c.pieces.invariant.inboxes;
      turns = c.give-n.ensures.turns ∙ c.pieces.invariant.turns;
      moved = left_more c.args.self.now.left (take c.pieces.filled into) (take n piece) c.pieces.self.left c.give-n.new.self.left c.pieces.invariant.moved c.give-n.ensures.moved
          ∙ ap (λ (t : List ℕ). t ++ c.give-n.new.self.left) (sym (filled_more into piece behind c.pieces.filled n c.pieces.invariant.within room));
    }
