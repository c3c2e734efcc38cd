use Rattle.std.proofs.Common.{◌≡◌, ◌∙◌, ℕ, ◌+◌, ◌*◌, List, [], ◌∷◌, ◌++◌, map, sym, ap, arith}
use Rattle.std.specs.Prelude.{codes}
use Rattle.std.specs.List.{range_with_len}
use Rattle.dali_base.specs.Spelling.{two_digits}
use Rattle.dali_gen.specs.Draws.{state_after}
use Rattle.dali_gen.specs.Instructions.{drawn_from, fields_of, after_commas}
use Rattle.dali_gen.specs.declared.instruction.Instruction.{Instruction}
use Rattle.dali_gen.specs.Day.{text_of, prices, hour_of, group_size, instruction, instruction_line, cycle_line, group_lines}
use Rattle.dali_gen.proofs.Drawn.{state_sum}
use Rattle.dali_gen.proofs.Prices.{listed_count}
use Rattle.dali_gen.proofs.Texts.{text_begun, text_step, text_told, two_added, text_last, on_ok, ok_anyway}
use Rattle.dali_gen.proofs.group.add_group.Goals as goal

pub loop-place-init : goal.loop-place-init
loop-place-init c =
    let first : group_size c.args.n * c.args.group ≡ group_size c.args.n * c.args.group + 0 = omega arith in
    record {
      text = text_begun (instruction_line c.args.n (hour_of c.args.group)) (group_size c.args.n * c.args.group) c.args.text.now;
      state = c.requires.state ∙ ap (λ (k : ℕ). state_after (30 + 5 * k) c.args.n) first;
    }

pub draw-instruction-requires : goal.draw-instruction-requires
draw-instruction-requires c = listed_count c.args.n c.args.prices.now c.requires.prices

pub loop-place-preserved : goal.loop-place-preserved
loop-place-preserved c =
    let n : ℕ = c.args.n in
    let first : ℕ = group_size c.args.n * c.args.group in
    let place : ℕ = c.loop-place.place in
    let at : ℕ = group_size c.args.n * c.args.group + c.loop-place.place in
    let drawn : c.draw-instruction.result ≡ instruction n at =
    c.draw-instruction.ensures.drawn
    ∙ ap (λ (ps : List ℕ). drawn_from ps c.loop-place.draws (at + 1)) c.requires.prices
    ∙ ap (λ (s : ℕ). drawn_from (prices n) s (at + 1)) c.loop-place.invariant.state in
    let more : 5 + (30 + 5 * at) ≡ 30 + 5 * (first + (place + 1)) = omega arith in
    record {
      text = text_step (instruction_line n (hour_of c.args.group)) first place at c.args.text.now c.loop-place.text c.add_instruction.new.text (omega arith)
          c.loop-place.invariant.text
          (c.in_ok-add_instruction.ensures
          ∙ ap (λ (i : Instruction). c.loop-place.text ++ ((two_digits (hour_of c.args.group) ++ codes "0000" ++ after_commas (fields_of i)) ++ 10 ∷ [])) drawn);
      state = c.draw-instruction.ensures.state ∙ ap (state_after 5) c.loop-place.invariant.state ∙ state_sum 5 (30 + 5 * at) n ∙ ap (λ (k : ℕ). state_after k n) more;
    }

pub returns-clause-text : goal.returns-clause-text
unfolding group_lines
returns-clause-text c =
    let n : ℕ = c.args.n in
    let first : ℕ = group_size c.args.n * c.args.group in
    let all : c.loop-place.place ≡ group_size c.args.n = omega (arith, c.loop-place.auto, c.loop-place-test.false) in
    let lines : List (List ℕ) = map (instruction_line n (hour_of c.args.group)) (range_with_len first (group_size n)) in
    let told : c.loop-place.text ≡ c.args.text.now ++ text_of lines =
    text_told (instruction_line n (hour_of c.args.group)) first c.loop-place.place (group_size n) c.args.text.now c.loop-place.text all c.loop-place.invariant.text in
    on_ok c.add_cycle.result
    (λ grew. two_added c.args.text.now c.loop-place.text c.add_cycle.new.text (text_of lines) (cycle_line (hour_of c.args.group) ++ 10 ∷ []) told grew
    ∙ ap (λ (t : List ℕ). c.args.text.now ++ t) (sym (text_last lines (cycle_line (hour_of c.args.group)))))
    c.add_cycle.ensures

pub returns-clause-state : goal.returns-clause-state
returns-clause-state c =
    let all : c.loop-place.place ≡ group_size c.args.n = omega (arith, c.loop-place.auto, c.loop-place-test.false) in
    let more : group_size c.args.n * c.args.group + c.loop-place.place ≡ group_size c.args.n * (c.args.group + 1) = omega arith in
    ok_anyway c.add_cycle.result (c.loop-place.invariant.state ∙ ap (λ (k : ℕ). state_after (30 + 5 * k) c.args.n) more)
