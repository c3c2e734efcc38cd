use Rattle.std.proofs.Common.{◌∙◌, ◌+◌, length, ap, sym, slice_range, arith}
use Rattle.std.proofs.lemmas.Grind.{common_steps}
use Rattle.dali_outside.proofs.Undo.{overlay_same, range_length}
use Rattle.dali_outside.proofs.mem_site.lay.Goals as goal

pub returns-then-beyond_calls-clause-laid : goal.returns-then-beyond_calls-clause-laid
returns-then-beyond_calls-clause-laid c =
    let at = c.args.at in
    let len = length c.args.piece.now in
    let old = c.args.tape.now in
    record {
      stands = slice_range old.bytes at (at + len);
      as_long = range_length old.bytes at len c.requires.within;
      whole = grind (arith, common_steps);
      bytes = ap (λ r. r.bytes) c.loosen_unnoted.ensures ∙ sym (overlay_same old.bytes at len c.requires.within);
      loose = ap (λ r. r.loose) c.loosen_unnoted.ensures;
      text = ap (λ r. r.text) c.loosen_unnoted.ensures;
      past = ap (λ r. r.past) c.loosen_unnoted.ensures;
    }

pub returns-then-lacks_replaced_room-clause-laid :
    goal.returns-then-lacks_replaced_room-clause-laid
returns-then-lacks_replaced_room-clause-laid c =
    let at = c.args.at in
    let len = length c.args.piece.now in
    let old = c.args.tape.now in
    record {
      stands = slice_range old.bytes at (at + len);
      as_long = range_length old.bytes at len c.requires.within;
      whole = grind (arith, common_steps);
      bytes = ap (λ r. r.bytes) c.loosen.ensures ∙ sym (overlay_same old.bytes at len c.requires.within);
      loose = ap (λ r. r.loose) c.loosen.ensures;
      text = ap (λ r. r.text) c.loosen.ensures;
      past = ap (λ r. r.past) c.loosen.ensures;
    }
