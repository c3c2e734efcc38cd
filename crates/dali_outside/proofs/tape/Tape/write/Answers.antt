use Rattle.std.proofs.Common.{◌≡◌, ◌∙◌, ◌+◌, ◌≤◌, length, [], ◌∷◌, ◌++◌, ap, true, replicate, slice_range, arith, reverse, rules}
use Rattle.std.proofs.lemmas.List.{length-append}
use Rattle.dali_outside.specs.Tape.{Reel, past_of}
use Rattle.dali_outside.specs.Outside.{overlay}
use Rattle.dali_outside.specs.Memory.{torn}
use Rattle.dali_outside.specs.declared.step.Step.TheVariants.{Wrote}
use Rattle.dali_outside.proofs.Undo.{written, torn_length, range_length}
use Rattle.dali_outside.proofs.tape.Tape.write.Goals as goal

pub returns : goal.returns
returns c =
    let bytes = c.self.inside.bytes.items in
    let len = length c.args.piece.now in
    let stands = torn c.args.piece.now c.args.went in
    let fits : c.args.at + len ≤ length bytes = omega (arith, ap (λ r. length r.bytes) c.self.view_is, c.requires.within) in
    let laid : c.lay.new.bytes.items ≡ overlay bytes c.args.at stands = search rules in
    let steps : c.push.new.self.items ≡ c.self.inside.steps.items ++ Wrote c.args.at len ∷ [] = search rules in
    let kept : c.extend_from_slice.new.self.items ≡ c.self.inside.replaced.items ++ slice_range bytes c.args.at (c.args.at + len) = search rules in
    let past : past_of (length c.lay.new.bytes.items) (reverse c.push.new.self.items) c.lay.new.bytes.items c.extend_from_slice.new.self.items c.self.inside.text.items
    ≡ past_of (length bytes) (reverse c.self.inside.steps.items) bytes c.self.inside.replaced.items c.self.inside.text.items =
    ap (λ bs. past_of (length bs) (reverse c.push.new.self.items) bs c.extend_from_slice.new.self.items c.self.inside.text.items) laid
    ∙ ap (λ ss. past_of (length (overlay bytes c.args.at stands)) (reverse ss) (overlay bytes c.args.at stands) c.extend_from_slice.new.self.items c.self.inside.text.items) steps
    ∙ ap (λ rs. past_of (length (overlay bytes c.args.at stands)) (reverse (c.self.inside.steps.items ++ Wrote c.args.at len ∷ [])) (overlay bytes c.args.at stands) rs c.self.inside.text.items) kept
    ∙ written c.self.inside.steps.items bytes c.self.inside.replaced.items c.self.inside.text.items stands c.args.at len fits (torn_length c.args.piece.now c.args.went c.requires.went) in
    let loose : c.mark.new.marks.items ≡ overlay c.self.inside.loose.items c.args.at (replicate len true) = search rules in
    let one_more : length c.push.new.self.items ≡ length c.self.inside.steps.items + 1 = ap length steps ∙ length-append c.self.inside.steps.items (Wrote c.args.at len ∷ []) in
    let longer : length c.extend_from_slice.new.self.items ≡ length c.self.inside.replaced.items + len =
    ap length kept ∙ length-append c.self.inside.replaced.items (slice_range bytes c.args.at (c.args.at + len)) ∙ ap (λ k. length c.self.inside.replaced.items + k) (range_length bytes c.args.at len fits) in
    let after : Reel → Reel = λ r. record {
      bytes = overlay r.bytes c.args.at stands;
      loose = overlay r.loose c.args.at (replicate len true);
      text = r.text;
      past = r.past;
      steps = r.steps + 1;
      replaced = r.replaced + len;
      text_room = r.text_room;
      step_room = r.step_room;
      replaced_room = r.replaced_room;
      noted = r.noted;
    } in
    (λ i. record {
      bytes = laid i;
      loose = loose i;
      text = c.self.inside.text.items;
      past = past i;
      steps = one_more i;
      replaced = longer i;
      text_room = c.self.inside.text_room;
      step_room = c.self.inside.step_room;
      replaced_room = c.self.inside.replaced_room;
      noted = c.self.inside.noted;
    }) ∙ ap after c.self.view_is
