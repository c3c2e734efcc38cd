use Rattle.std.proofs.Common.{◌≡◌, inl, inr, ℕ, suc, ◌-◌, ◌<◌, ◌≤◌, ◌^◌, List, ◌∷◌, length, drop, get_or, set, cond, ap, sym, ◌∙◌, arith, length-set}
use Rattle.std.proofs.Math.Seq.{drop-cons}
use Rattle.std.proofs.lemmas.Bool.Decides.{eqb_tells}
use Rattle.std.proofs.lemmas.List.{get_or-set_same, get_or-set_other}
use Rattle.std.proofs.lemmas.List.Elements.{All-set, All-get_or}
use Rattle.dali_lagrange.specs.Multipliers.{multiplier}
use Rattle.dali_lagrange.proofs.point.load.Goals as goal

-- one more multiplier, before those that are written
one_more : (ms : List ℕ) (m : ℕ × ℕ) (rest : List (ℕ × ℕ)) (k : ℕ) → k < length ms → get_or ms k 0 ≡ multiplier rest k →
    get_or (set ms m.0 m.1) k 0 ≡ multiplier (m ∷ rest) k
one_more ms m rest k within before = elim (eqb_tells m.0 k) as (λ _. get_or (set ms m.0 m.1) k 0 ≡ multiplier (m ∷ rest) k) [
  | inl same ↦
      ap (λ n. get_or (set ms n m.1) k 0) same.1
      ∙ get_or-set_same ms k m.1 0 within
      ∙ sym (ap (λ b. cond b m.1 (multiplier rest k)) same.0)
  | inr other ↦
      get_or-set_other ms m.0 k m.1 0 (λ q. other.1 (sym q))
      ∙ before
      ∙ sym (ap (λ b. cond b m.1 (multiplier rest k)) other.0)
]

pub loop-left-preserved : goal.loop-left-preserved
loop-left-preserved c =
    let some : c.loop-left.left ≡ suc (c.loop-left.left - 1) = omega arith in
    let within : c.loop-left.left - 1 < length c.args.lam.now = omega arith in
    let next : drop (c.loop-left.left - 1) c.args.lam.now
    ≡ get_or c.args.lam.now (c.loop-left.left - 1) (0, 0) ∷ drop (suc (c.loop-left.left - 1)) c.args.lam.now =
    drop-cons c.args.lam.now (c.loop-left.left - 1) (0, 0) within in
    let small : (get_or c.args.lam.now (c.loop-left.left - 1) (0, 0)).1 ≤ 2 ^ 44 =
    All-get_or (λ (m : ℕ × ℕ). m.1 ≤ 2 ^ 44) c.args.lam.now (c.loop-left.left - 1) (0, 0) within c.requires.bounded in
    record {
      within = omega arith;
      loaded = λ k inside.
          let there : k < length c.loop-left.multipliers = omega (arith, length-set {A = ℕ}, inside) in
          let before = c.loop-left.invariant.loaded k there ∙ ap (λ n. multiplier (drop n c.args.lam.now) k) some in
          one_more c.loop-left.multipliers (get_or c.args.lam.now (c.loop-left.left - 1) (0, 0)) (drop (suc (c.loop-left.left - 1)) c.args.lam.now) k there before
          ∙ sym (ap (λ lam. multiplier lam k) next);
      bounded = All-set (λ m. m ≤ 2 ^ 44) c.loop-left.multipliers (get_or c.args.lam.now (c.loop-left.left - 1) (0, 0)).0 (get_or c.args.lam.now (c.loop-left.left - 1) (0, 0)).1 small c.loop-left.invariant.bounded;
    }
