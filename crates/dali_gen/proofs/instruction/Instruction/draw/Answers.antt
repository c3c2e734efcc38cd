use Rattle.std.proofs.Common.{◌≡◌, ◌∙◌, ℕ, ◌+◌, ◌*◌, ap}
use Rattle.std.specs.Prelude.{slice_index}
use Rattle.dali_gen.specs.Draws.{next_state, given, drawn, state_after}
use Rattle.dali_gen.specs.Instructions.{kind_of, taker_of}
use Rattle.dali_gen.proofs.Drawing.{made}
use Rattle.dali_gen.proofs.instruction.Instruction.draw.Goals as goal

pub returns-clause-state : goal.returns-clause-state
unfolding state_after
returns-clause-state c =
    c.draw-3.ensures.state
    ∙ ap next_state (c.draw-code.ensures.state
    ∙ ap next_state (c.draw-2.ensures.state ∙ ap next_state (c.draw-giver.ensures.state ∙ ap next_state c.draw.ensures.state)))

pub returns-clause-drawn : goal.returns-clause-drawn
unfolding state_after
returns-clause-drawn c =
    let s : ℕ = c.args.draws.now in
    let one : c.draw.new.self ≡ state_after 1 s = c.draw.ensures.state in
    let two : c.draw-giver.new.self ≡ state_after 2 s = c.draw-giver.ensures.state ∙ ap next_state one in
    let three : c.draw-2.new.self ≡ state_after 3 s = c.draw-2.ensures.state ∙ ap next_state two in
    let four : c.draw-code.new.self ≡ state_after 4 s = c.draw-code.ensures.state ∙ ap next_state three in
    let five : c.draw-3.new.self ≡ state_after 5 s = c.draw-3.ensures.state ∙ ap next_state four in
    let kind : c.draw.result ≡ drawn 1 s 3 = c.draw.ensures.given ∙ ap (λ (t : ℕ). given t 3) one in
    let giver : c.draw-giver.result ≡ drawn 2 s 12 = c.draw-giver.ensures.given ∙ ap (λ (t : ℕ). given t 12) two in
    let step : c.draw-2.result ≡ drawn 3 s 11 = c.draw-2.ensures.given ∙ ap (λ (t : ℕ). given t 11) three in
    let code : c.draw-code.result ≡ drawn 4 s 30 = c.draw-code.ensures.given ∙ ap (λ (t : ℕ). given t 30) four in
    let more : c.draw-3.result ≡ drawn 5 s 500 = c.draw-3.ensures.given ∙ ap (λ (t : ℕ). given t 500) five in
    let quantity : c.from-quantity.result ≡ 1 + drawn 5 s 500 = c.from-quantity.ensures ∙ ap (λ (d : ℕ). 1 + d) more in
    let price : c.from.result ≡ slice_index c.args.prices.now (drawn 4 s 30) = c.from.ensures ∙ ap (slice_index c.args.prices.now) code in
    made c.args.prices.now s c.args.number c.kind-kind.result c.draw-giver.result c.taker-taker.result c.draw-code.result
    c.from-quantity.result (c.from-quantity.result * c.from.result)
    (c.kind-kind.ensures ∙ ap kind_of kind)
    giver
    (c.taker-taker.ensures ∙ ap (λ (g : ℕ). taker_of g c.draw-2.result) giver ∙ ap (taker_of (drawn 2 s 12)) step)
    code
    quantity
    (ap (λ (q : ℕ). q * c.from.result) quantity ∙ ap (λ (p : ℕ). (1 + drawn 5 s 500) * p) price)
