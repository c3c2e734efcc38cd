use Rattle.std.proofs.Common.{◌≡◌, ◌∙◌, ℕ, zero, suc, ◌+◌, refl, sym, ap, add-one, arith}
use Rattle.dali_gen.specs.Draws.{next_state, state_after}

-- one more draw
pub state_more : (k s : ℕ) → state_after (k + 1) s ≡ next_state (state_after k s)
unfolding state_after
state_more k s = rw add-one refl

-- no draw
pub state_none : (s : ℕ) → state_after 0 s ≡ s
unfolding state_after
state_none s = refl

-- draws after draws
pub state_sum : (a b s : ℕ) → state_after a (state_after b s) ≡ state_after (a + b) s
unfolding state_after
state_sum zero b s = ap (λ k. state_after k s) (omega arith)
state_sum (suc a) b s =
    let same : suc a + b ≡ suc (a + b) = omega arith in
    ap next_state (state_sum a b s) ∙ ap (λ k. state_after k s) (sym same)
