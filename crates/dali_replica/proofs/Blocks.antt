-- Bytes between a start and an end.
use Rattle.std.proofs.Common.{◌≡◌, ◌∙◌, ℕ, ◌+◌, ◌-◌, ◌≤◌, List, take, drop, sym, ap, arith}
use Rattle.std.proofs.lemmas.List.{drop-drop, drop-take}

-- the first n of them are dropped
pub consumed : (n start end : ℕ) (bytes : List ℕ) → start + n ≤ end → take (end - (start + n)) (drop (start + n) bytes) ≡ drop n (take (end - start) (drop start bytes))
consumed n start end bytes within =
    let rest : end - (start + n) ≡ (end - start) - n = omega arith in
    let whole : n + (end - (start + n)) ≡ end - start = omega (arith, within) in
    ap (take (end - (start + n))) (sym (drop-drop n start bytes))
    ∙ sym (drop-take n (end - (start + n)) (drop start bytes))
    ∙ ap (λ k. drop n (take k (drop start bytes))) whole
