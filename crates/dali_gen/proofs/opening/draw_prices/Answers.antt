use Rattle.std.proofs.Common.{◌≡◌, ◌∙◌, ◌+◌, ◌*◌, [], ◌∷◌, ◌++◌, map, sym, ap, arith}
use Rattle.std.specs.List.{range_with_len}
use Rattle.std.proofs.lemmas.List.FromFn.{map-range_with_len_more}
use Rattle.dali_gen.specs.Draws.{next_state, given, state_after}
use Rattle.dali_gen.specs.Day.{price, prices}
use Rattle.dali_gen.proofs.Drawn.{state_none, state_more}
use Rattle.dali_gen.proofs.opening.draw_prices.Goals as goal

pub loop-init : goal.loop-init
loop-init c = record { prices = c.in_ok-prices.ensures.items; state = sym (state_none c.args.draws.now) }

pub loop-preserved : goal.loop-preserved
loop-preserved c =
    let s = c.args.draws.now in
    let k = c.loop.counter in
    let state : c.draw.new.self ≡ state_after (k + 1) s = c.draw.ensures.state ∙ ap next_state c.loop.invariant.state ∙ sym (state_more k s) in
    let drawn : c.draw.result ≡ given (state_after (k + 1) s) 100 = c.draw.ensures.given ∙ ap (λ t. given t 100) state in
    record {
      prices =
          c.in_ok-push.ensures.items
          ∙ ap (λ ps. ps ++ 100 * (1 + c.draw.result) ∷ []) c.loop.invariant.prices
          ∙ ap (λ d. map (price s) (range_with_len 0 k) ++ 100 * (1 + d) ∷ []) drawn
          ∙ sym (map-range_with_len_more (price s) 0 k k (omega arith));
      state = state;
    }

pub returns-clause-prices : goal.returns-clause-prices
unfolding prices
returns-clause-prices c =
    let all : c.loop.counter ≡ 30 = omega (arith, c.loop.auto, c.loop-test.false) in
    c.loop.invariant.prices ∙ ap (λ k. map (price c.args.draws.now) (range_with_len 0 k)) all

pub returns-clause-state : goal.returns-clause-state
returns-clause-state c =
    let all : c.loop.counter ≡ 30 = omega (arith, c.loop.auto, c.loop-test.false) in
    c.loop.invariant.state ∙ ap (λ k. state_after k c.args.draws.now) all
