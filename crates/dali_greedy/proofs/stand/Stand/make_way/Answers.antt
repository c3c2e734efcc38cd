use Rattle.std.proofs.Common.{◌≡◌, ◌<◌, ◌∙◌, ℕ, pos, length, List, get_or, ap, sym, subst, arith, length-set}
use Rattle.std.proofs.lemmas.List.{get_or_default}
use Rattle.dali_problem.specs.declared.columns.Touch.{Touch}
use Rattle.dali_problem.specs.declared.mark.Mark.{Mark}
use Rattle.dali_problem.specs.declared.mark.Mark.TheVariants.{Left}
use Rattle.dali_problem.specs.Clearing.{effect}
use Rattle.dali_problem.specs.Partial.{mark}
use Rattle.dali_problem.specs.Touches.{touches}
use Rattle.dali_rest.proofs.Marks.{within_left, within_chosen}
use Rattle.dali_greedy.specs.Standing.{Holds, Betters, IsTouch, left_worth}
use Rattle.dali_greedy.proofs.Columned.{touches_are}
use Rattle.dali_greedy.proofs.Fits.{tight_line, tight_fails}
use Rattle.dali_greedy.proofs.Goes.{better_touches, tight_same}
use Rattle.dali_greedy.proofs.Worths.{worth_exchanged}
use Rattle.dali_greedy.proofs.stand.Stand.make_way.Goals as goal

pub exchange_touching-requires-clause-holds : goal.exchange_touching-requires-clause-holds
exchange_touching-requires-clause-holds c = subst (Holds c.args.problem.now) (sym c.loop-touch.invariant.same) c.requires.holds

pub exchange_touching-requires-clause-left : goal.exchange_touching-requires-clause-left
exchange_touching-requires-clause-left c = ap (λ (g : List Mark). mark g c.args.place) c.loop-touch.invariant.same ∙ c.requires.left

pub exchange_touching-requires-clause-tight : goal.exchange_touching-requires-clause-tight
exchange_touching-requires-clause-tight c =
    let within : c.args.place < length c.args.problem.now.items = omega (arith, within_left c.args.self.now.marks c.args.place c.requires.left, c.requires.of.marks) in
    tight_same c.args.problem.now c.args.self.now c.loop-touch.self c.args.place c.args.effect.now c.items-items.ensures.bounds within c.requires.of c.loop-touch.invariant.of
    c.loop-touch.invariant.same c.requires.tight

pub exchange_touching-requires-clause-touch : goal.exchange_touching-requires-clause-touch
exchange_touching-requires-clause-touch c =
    let within : c.args.place < length c.args.problem.now.items = omega (arith, within_left c.args.self.now.marks c.args.place c.requires.left, c.requires.of.marks) in
    let line = tight_line c.args.problem.now c.args.self.now c.args.place c.args.effect.now c.items-items.ensures.bounds within c.requires.tight in
    let is : c.touching-touch-items.result.now ≡ touches c.args.problem.now c.args.effect.now.line = c.touching-touch-items.ensures ∙ c.requires.columns.touches c.args.effect.now.line line.0 in
    let below : c.loop-touch.touch-index < length (touches c.args.problem.now c.args.effect.now.line) =
    subst (λ (ts : List Touch). c.loop-touch.touch-index < length ts) is c.loop-touch-test.true in
    subst (λ (ts : List Touch). IsTouch c.args.problem.now c.args.effect.now.line (get_or ts c.loop-touch.touch-index (record { place = 0; amount = pos 0 }))) (sym is)
    (touches_are c.args.problem.now c.args.effect.now.line c.loop-touch.touch-index (record { place = 0; amount = pos 0 }) below)

pub returns-then-exchange_touching-clause-more : goal.returns-then-exchange_touching-clause-more
returns-then-exchange_touching-clause-more c = λ _.
    let n : ℕ = length c.args.problem.now.items in
    let g : List Mark = c.loop-touch.self.marks in
    let i : ℕ = (get_or c.touching-touch-items.result.now c.loop-touch.touch-index (record { place = 0; amount = pos 0 })).place in
    let j : ℕ = c.args.place in
    let betters : Betters c.args.problem.now c.args.partial.now.marks g j i = c.exchange_touching.ensures.betters c.if-exchange_touching.true in
    let left : mark g j ≡ Left = ap (λ (h : List Mark). mark h j) c.loop-touch.invariant.same ∙ c.requires.left in
    let size = c.loop-touch.invariant.of.marks in
    let less = worth_exchanged c.args.problem.now g i j n (omega (arith, within_chosen g i betters.chosen, size)) (omega (arith, within_left g j left, size))
    (length-set g i Left) (within_left g j left) betters.chosen left betters.less in
    let new_ = ap (λ (h : List Mark). left_worth c.args.problem.now h n) (c.exchange_touching.ensures.marks c.if-exchange_touching.true) in
    let old_ = ap (λ (h : List Mark). left_worth c.args.problem.now h n) c.loop-touch.invariant.same in
    omega (arith, less, new_, old_)

pub returns-clause-stuck : goal.returns-clause-stuck
returns-clause-stuck c = λ _.
    let within : c.args.place < length c.args.problem.now.items = omega (arith, within_left c.args.self.now.marks c.args.place c.requires.left, c.requires.of.marks) in
    let line = tight_line c.args.problem.now c.args.self.now c.args.place c.args.effect.now c.items-items.ensures.bounds within c.requires.tight in
    let is : c.touching-touch-items.result.now ≡ touches c.args.problem.now c.args.effect.now.line =
    c.touching-touch-items.ensures ∙ c.requires.columns.touches c.args.effect.now.line line.0 in
    let none : Touch = record { place = 0; amount = pos 0 } in
    record {
      alone = tight_fails c.args.problem.now c.args.self.now c.args.place c.args.effect.now c.items-items.ensures.bounds c.requires.of c.requires.left c.requires.tight;
      exchange = (λ i betters.
          let t : Touch = record { place = i; amount = effect c.args.problem.now i c.args.effect.now.line } in
          let there = better_touches c.args.problem.now c.args.partial.now.marks c.args.self.now i c.args.place c.args.effect.now c.items-items.ensures.bounds
          c.requires.of c.requires.left c.requires.tight betters in
          let k : ℕ = there.0 in
          let at : (get_or c.touching-touch-items.result.now k none).place ≡ i =
          ap (λ (ts : List Touch). (get_or ts k none).place) is
          ∙ ap (λ (x : Touch). x.place) (get_or_default (touches c.args.problem.now c.args.effect.now.line) k none t there.1 ∙ there.2) in
          let size : length c.touching-touch-items.result.now ≡ length (touches c.args.problem.now c.args.effect.now.line) = ap length is in
          c.loop-touch.invariant.none k (omega (arith, there.1, size, c.loop-touch-test.false))
          (subst (Betters c.args.problem.now c.args.partial.now.marks c.args.self.now.marks c.args.place) (sym at) betters));
    }
