use Rattle.std.proofs.Common.{◌≡◌, ◌≢◌, inl, inr, ℕ, ◌+◌, ◌*◌, ◌^◌, ◌<◌, ℤ, pos, Bool, ◌&&◌, ◌||◌, not, List, length, get_or, set, ltb, leb, if◌then◌else◌, refl, ap, sym, ◌∙◌, subst, arith}
use Rattle.std.specs.List.{All}
use Rattle.std.specs.Int.RustNames.{unsigned_abs}
use Rattle.std.specs.Int.Signed.{lt_z, le_z}
use Rattle.std.proofs.lemmas.Bool.{cases_lt, cases_eq}
use Rattle.std.proofs.lemmas.Int.{ints}
use Rattle.std.proofs.lemmas.List.{get_or-set_same, get_or-set_other, get_or_past, length-set}
use Rattle.std.proofs.lemmas.List.Elements.{All-from_get_or}
use Rattle.dali_problem.specs.declared.mark.Mark.{Mark}
use Rattle.dali_problem.specs.declared.mark.Mark.TheVariants.{Stranger, Undecided, Chosen, Left}
use Rattle.dali_problem.specs.Clearing.{Clearing}
use Rattle.dali_problem.specs.Partial.{mark, is_undecided, is_chosen}
use Rattle.dali_problem.specs.Rules.{all_below}
use Rattle.dali_lagrange.specs.Bound.{reduced, sum_of}
use Rattle.dali_lagrange.specs.Multipliers.{multiplier}
use Rattle.dali_lagrange.specs.KeptSum.{KeptSum}
use Rattle.dali_lagrange.specs.Settled.{changed, is_gain, is_still_at, is_settled}
use Rattle.dali_lagrange.proofs.SettledLaws.{settled_same}
use Rattle.dali_check.specs.Lean.{reaches, nearness}
use Rattle.dali_check.specs.Proves.{closes}
use Rattle.dali_check.specs.Room.{IsSumFor, as_member}
use Rattle.dali_check.proofs.Alike.{Like, sum_like, all_below_same}
use Rattle.dali_check.proofs.Points.{sum_at, reduced_at}

pub like_of : (p : Clearing) (lam : List (ℕ × ℕ)) (f : List Mark) (kept : KeptSum) → IsSumFor p lam f kept → Like f kept.marks
like_of p lam f kept stands = record {
  size = stands.size ∙ sym stands.of.marks;
  undecided = stands.undecided;
  chosen = stands.chosen;
}

-- the kept Sum is that of the partial choice at the multipliers
pub stands_sum : (p : Clearing) (lam : List (ℕ × ℕ)) (f : List Mark) (kept : KeptSum) → IsSumFor p lam f kept →
    sum_of p kept.marks (λ l. get_or kept.multipliers l 0) ≡ sum_of p f (multiplier lam)
stands_sum p lam f kept stands =
    sum_at p kept.marks (λ l. get_or kept.multipliers l 0) (multiplier lam) stands.multipliers
    ∙ sym (sum_like p f kept.marks (multiplier lam) (like_of p lam f kept stands))

still_like : (p : Clearing) (f g : List Mark) (lam : ℕ → ℕ) (l : ℕ) → Like f g → is_still_at p f lam l ≡ is_still_at p g lam l
unfolding is_still_at
still_like p f g lam l like =
    all_below_same (λ x. not (is_gain (sum_of p f lam) (sum_of p f (changed lam l x)))) (λ x. not (is_gain (sum_of p g lam) (sum_of p g (changed lam l x)))) (2 ^ 44 + 1)
    (λ x below. ap (λ z. not (is_gain z (sum_of p f (changed lam l x)))) (sum_like p f g lam like)
    ∙ ap (λ z. not (is_gain (sum_of p g lam) z)) (sum_like p f g (changed lam l x) like))

pub settled_like : (p : Clearing) (f g : List Mark) (lam : ℕ → ℕ) → Like f g → is_settled p f lam ≡ is_settled p g lam
unfolding is_settled
settled_like p f g lam like =
    ap (λ z. le_z z (sum_of p f (λ _. 0)) && (lt_z z (pos 4096) || all_below (is_still_at p f lam) (length p.lines))) (sum_like p f g lam like)
    ∙ ap (λ z. le_z (sum_of p g lam) z && (lt_z (sum_of p g lam) (pos 4096) || all_below (is_still_at p f lam) (length p.lines))) (sum_like p f g (λ _. 0) like)
    ∙ ap (λ b. le_z (sum_of p g lam) (sum_of p g (λ _. 0)) && (lt_z (sum_of p g lam) (pos 4096) || b))
    (all_below_same (is_still_at p f lam) (is_still_at p g lam) (length p.lines) (λ l below. still_like p f g lam l like))

pub stands_settled : (p : Clearing) (lam : List (ℕ × ℕ)) (f : List Mark) (kept : KeptSum) → IsSumFor p lam f kept →
    is_settled p kept.marks (λ l. get_or kept.multipliers l 0) ≡ is_settled p f (multiplier lam)
stands_settled p lam f kept stands =
    settled_same p kept.marks (λ l. get_or kept.multipliers l 0) (multiplier lam) stands.multipliers
    ∙ sym (settled_like p f kept.marks (multiplier lam) (like_of p lam f kept stands))

pub stands_nearness : (p : Clearing) (lam : List (ℕ × ℕ)) (f : List Mark) (kept : KeptSum) (j : ℕ) → IsSumFor p lam f kept →
    unsigned_abs (reduced p (λ l. get_or kept.multipliers l 0) j) ≡ nearness p lam j
stands_nearness p lam f kept j stands = ap unsigned_abs (reduced_at p (λ l. get_or kept.multipliers l 0) (multiplier lam) j stands.multipliers)

-- the marks below a number are aligned, and all are marks of members
pub as_member_told : (m : Mark) → (is_undecided m ≡ is_undecided (as_member m)) × (is_chosen m ≡ is_chosen (as_member m))
as_member_told Stranger = (refl, refl)
as_member_told Undecided = (refl, refl)
as_member_told Chosen = (refl, refl)
as_member_told Left = (refl, refl)

as_member_of : (m : Mark) → as_member m ≢ Stranger
as_member_of Stranger is = absurd (cc)
as_member_of Undecided is = absurd (cc)
as_member_of Chosen is = absurd (cc)
as_member_of Left is = absurd (cc)

pub members_more : (g h : List Mark) (j : ℕ) (m : Mark) → h ≡ set g j (as_member m) → All (λ n. n ≢ Stranger) g → All (λ n. n ≢ Stranger) h
members_more g h j m is before = subst (λ (k : List Mark). All (λ n. n ≢ Stranger) k) (sym is)
    (All-from_get_or (λ n. n ≢ Stranger) (set g j (as_member m)) Stranger (λ k below. elim (cases_eq k j) as (λ _. mark (set g j (as_member m)) k ≢ Stranger) [
      | inl same ↦ (λ stranger.
          as_member_of m (sym (get_or-set_same g j (as_member m) Stranger (omega (arith, same, below, length-set g j (as_member m))))
          ∙ sym (ap (mark (set g j (as_member m))) same) ∙ stranger))
      | inr other ↦ (λ stranger. before k Stranger (omega (arith, below, length-set g j (as_member m)))
          (sym (get_or-set_other g j k (as_member m) Stranger other) ∙ stranger))
    ]))

-- one place more is aligned
pub aligned_more : (f g h : List Mark) (j : ℕ) → j < length g → h ≡ set g j (as_member (mark f j)) →
    ((k : ℕ) → k < j → mark g k ≡ as_member (mark f k)) → (k : ℕ) → k < j + 1 → mark h k ≡ as_member (mark f k)
aligned_more f g h j within is before k below = ap (λ (e : List Mark). mark e k) is
    ∙ elim (cases_eq k j) as (λ _. mark (set g j (as_member (mark f j))) k ≡ as_member (mark f k)) [
      | inl same ↦
          ap (mark (set g j (as_member (mark f j)))) same ∙ get_or-set_same g j (as_member (mark f j)) Stranger within
          ∙ sym (ap (λ i. as_member (mark f i)) same)
      | inr other ↦ get_or-set_other g j k (as_member (mark f j)) Stranger other ∙ before k (omega arith)
    ]

-- where all are aligned, both tell the same
pub aligned : (of : Mark → Bool) (f g : List Mark) (n : ℕ) → ((m : Mark) → of m ≡ of (as_member m)) → length f ≡ n → length g ≡ n →
    ((k : ℕ) → k < n → mark g k ≡ as_member (mark f k)) → (k : ℕ) → of (mark f k) ≡ of (mark g k)
aligned of f g n told size same each k = elim (cases_lt k n) as (λ _. of (mark f k) ≡ of (mark g k)) [
  | inl within ↦ told (mark f k) ∙ sym (ap of (each k within))
  | inr past ↦ ap of (get_or_past f k Stranger (omega (arith, size, past)) ∙ sym (get_or_past g k Stranger (omega (arith, same, past))))
]

-- members that are all places are no strangers
pub none_strange : (f : List Mark) (members : List ℕ) → length members ≡ length f → ((k : ℕ) → k < length f → get_or members k 0 ≡ k) →
    All (λ m. m ≡ Undecided) f → All (λ m. m ≢ Stranger) f
none_strange f members size each undecided k d below stranger = undecided_stranger (sym (undecided k d below) ∙ stranger)
  where
    undecided_stranger : Undecided ≡ Stranger → ⊥
    undecided_stranger is = cc

-- what the place of a branch asks of another place
abbrev pub is_behind : Clearing → List (ℕ × ℕ) → List Mark → ℕ → ℕ → Bool
is_behind p lam f place j = not (is_undecided (mark f j))
    || (if ltb j place then ltb (nearness p lam place) (nearness p lam j) else leb (nearness p lam place) (nearness p lam j))

-- a bound is closed exactly where the next one isn't reached
pub closes_is : (p : Clearing) (u : ℕ) (lam : List (ℕ × ℕ)) (f : List Mark) → not (reaches p (u + 1) lam f) ≡ closes p u lam f
unfolding reaches closes
closes_is p u lam f = below (sum_of p f (multiplier lam)) (pos (4096 * (u + 1)))
  where
    below : (s x : ℤ) → not (le_z x s) ≡ lt_z s x
    below s x = grind (arith, ints)
