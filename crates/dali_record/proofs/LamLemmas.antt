-- The multipliers of a node are read from their changes, and only from them.
use Rattle.std.proofs.Common.{◌≡◌, inl, inr, ℕ, suc, ◌+◌, ◌<◌, ◌≤◌, Bool, true, cond, eqb, ◌&&◌, List, [], ◌∷◌, ◌++◌, length, Option, Some, None, refl, sym, ◌∙◌, ap, subst, append_assoc, arith}
use Rattle.std.specs.Prelude.{Result, Ok, Err, IfOk, ◌^◌, nat_le, nat_lt, unwrap_or, map}
use Rattle.std.specs.List.{list_all, AllByRecursion}
use Rattle.std.specs.Int.{w16, w64}
use Rattle.std.proofs.lemmas.Bool.{and_parts, and_from, cases_eq, leb-true, ltb-true, le-leb, lt-ltb, eq-eqb, ne_eqb, not-true, not_from_false}
use Rattle.std.proofs.lemmas.Option.{cond_some}
use Rattle.dali_tree.specs.Fits.{multiplier_fits, is_rising, lam_fits}
use Rattle.dali_record.specs.declared.refusal.RecordNo.{RecordNo}
use Rattle.dali_record.specs.Multipliers.{Rises, behind, all_zero, multiplier, changes, list_of}
use Rattle.dali_record.specs.TreeText.{two_bytes, eight_bytes, multiplier_text, list_text, lam_text}
use Rattle.dali_record.specs.Reading.{Gives, ◌>>=◌, number_at, list_at, multiplier_at, rises_from, differs, made_of, lam_at}
use Rattle.dali_record.proofs.ChangeLemmas.{Differ, Tell, at_head, at_tail, changes_of, changes_rise, changes_differ, changes_tell, changes_lead}
use Rattle.dali_record.proofs.Fields.{IsBytes, bind_some, some_is, Takes, Takes-then, TakesEach, ReadsAgain, two_takes, eight_takes, two_again, eight_again, list_takes, list_again}

-- ---- one multiplier

multiplier_takes : (bytes : List ℕ) (x : (ℕ × ℕ) × List ℕ) → IsBytes bytes → multiplier_at bytes ≡ Some x → Takes bytes (multiplier_text x.0) x.1
unfolding multiplier_at
multiplier_takes bytes x fits e =
    let a = bind_some (number_at w16 bytes) (λ line. number_at w64 line.1 >>= λ m. Some ((line.0, m.0), m.1)) x e in
    let b = bind_some (number_at w64 a.0.1) (λ m. Some ((a.0.0, m.0), m.1)) x a.2 in
    let one = two_takes bytes a.0 fits a.1 in
    let two = eight_takes a.0.1 b.0 one.0.rest_fits b.1 in
    subst (λ (y : (ℕ × ℕ) × List ℕ). Takes bytes (multiplier_text y.0) y.1) (some_is ((a.0.0, b.0.0), b.0.1) x b.2)
    (Takes-then bytes (two_bytes a.0.0) a.0.1 (eight_bytes b.0.0) b.0.1 one.0 two.0)

abbrev IsSmall : ℕ × ℕ → Type 0
IsSmall m = (m.0 < 2 ^ 16) × (m.1 < 2 ^ 64)

multiplier_again : (m : ℕ × ℕ) (rest : List ℕ) → IsSmall m → multiplier_at (multiplier_text m ++ rest) ≡ Some (m, rest)
unfolding multiplier_at
multiplier_again m rest small =
    ap multiplier_at (append_assoc (two_bytes m.0) (eight_bytes m.1) rest)
    ∙ rw (two_again m.0 (eight_bytes m.1 ++ rest) small.0, eight_again m.1 rest small.1) refl

each_takes : TakesEach multiplier_text multiplier_at
each_takes = record { takes = multiplier_takes }

each_again : ReadsAgain IsSmall multiplier_text multiplier_at
each_again = record { again = multiplier_again }

-- ---- tests and what they mean

pub rises_told : (line : ℕ) (ms : List (ℕ × ℕ)) → rises_from line ms ≡ true → Rises line 4096 ms
rises_told line [] told = tt
rises_told line (m ∷ ms) told =
    let a = and_parts (nat_le line m.0 && nat_lt m.0 4096 && nat_le m.1 (2 ^ 44)) (rises_from (suc m.0) ms) told in
    let b = and_parts (nat_le line m.0 && nat_lt m.0 4096) (nat_le m.1 (2 ^ 44)) a.0 in
    let c = and_parts (nat_le line m.0) (nat_lt m.0 4096) b.0 in
    (leb-true line m.0 c.0, ltb-true m.0 4096 c.1, rises_told (suc m.0) ms a.1)

differ_told : (above : ℕ → ℕ) (ms : List (ℕ × ℕ)) → list_all (differs above) ms ≡ true → Differ above ms
differ_told above [] told = tt
differ_told above (m ∷ ms) told =
    let a = and_parts (differs above m) (list_all (differs above) ms) told in
    (λ same. absurd (let no = not-true (eqb m.1 (above m.0)) a.0 in let yes = eq-eqb m.1 (above m.0) same in cc), differ_told above ms a.1)

abbrev AtMost : List (ℕ × ℕ) → Type 0
AtMost ms = AllByRecursion (λ m. m.1 ≤ 2 ^ 44) ms

rises_tells : (line : ℕ) (ms : List (ℕ × ℕ)) → Rises line 4096 ms → AtMost ms → rises_from line ms ≡ true
rises_tells line [] rises most = refl
rises_tells line (m ∷ ms) rises most =
    and_from (nat_le line m.0 && nat_lt m.0 4096 && nat_le m.1 (2 ^ 44)) (rises_from (suc m.0) ms)
    (and_from (nat_le line m.0 && nat_lt m.0 4096) (nat_le m.1 (2 ^ 44))
    (and_from (nat_le line m.0) (nat_lt m.0 4096) (le-leb line m.0 rises.0) (lt-ltb m.0 4096 rises.1)) (le-leb m.1 (2 ^ 44) most.0))
    (rises_tells (suc m.0) ms rises.2 most.1)

differ_tells : (above : ℕ → ℕ) (ms : List (ℕ × ℕ)) → Differ above ms → list_all (differs above) ms ≡ true
differ_tells above [] differ = refl
differ_tells above (m ∷ ms) differ =
    and_from (differs above m) (list_all (differs above) ms) (not_from_false (eqb m.1 (above m.0)) (ne_eqb m.1 (above m.0) differ.0)) (differ_tells above ms differ.1)

-- ---- multipliers that fit

fit_parts : (m : ℕ × ℕ) → multiplier_fits 4096 m ≡ true → (m.0 < 4096) × (1 ≤ m.1) × (m.1 ≤ 2 ^ 44)
fit_parts m fits =
    let a = and_parts (nat_lt m.0 4096 && nat_le 1 m.1) (nat_le m.1 (2 ^ 44)) fits in
    let b = and_parts (nat_lt m.0 4096) (nat_le 1 m.1) a.0 in
    (ltb-true m.0 4096 b.0, leb-true 1 m.1 b.1, leb-true m.1 (2 ^ 44) a.1)

rise_behind : (line : ℕ) (lam : List (ℕ × ℕ)) → list_all (multiplier_fits 4096) lam ≡ true → list_all (nat_lt line) (map (λ (m : ℕ × ℕ). m.0) lam) ≡ true →
    is_rising (map (λ (m : ℕ × ℕ). m.0) lam) ≡ true → Rises (suc line) 4096 lam
rise_behind line [] each above rising = tt
rise_behind line (m ∷ lam) each above rising =
    let a = and_parts (multiplier_fits 4096 m) (list_all (multiplier_fits 4096) lam) each in
    let b = and_parts (nat_lt line m.0) (list_all (nat_lt line) (map (λ (x : ℕ × ℕ). x.0) lam)) above in
    let c = and_parts (list_all (nat_lt m.0) (map (λ (x : ℕ × ℕ). x.0) lam)) (is_rising (map (λ (x : ℕ × ℕ). x.0) lam)) rising in
    let over : line < m.0 = ltb-true line m.0 b.0 in
    (omega (arith, over), (fit_parts m a.0).0, rise_behind m.0 lam a.1 c.0 c.1)

pub lam_rises : (lam : List (ℕ × ℕ)) → lam_fits 4096 lam ≡ true → Rises 0 4096 lam
lam_rises [] fits = tt
lam_rises (m ∷ lam) fits =
    let both = and_parts (list_all (multiplier_fits 4096) (m ∷ lam)) (is_rising (map (λ (x : ℕ × ℕ). x.0) (m ∷ lam))) fits in
    let a = and_parts (multiplier_fits 4096 m) (list_all (multiplier_fits 4096) lam) both.0 in
    let c = and_parts (list_all (nat_lt m.0) (map (λ (x : ℕ × ℕ). x.0) lam)) (is_rising (map (λ (x : ℕ × ℕ). x.0) lam)) both.1 in
    (omega arith, (fit_parts m a.0).0, rise_behind m.0 lam a.1 c.0 c.1)

nonzero : (lam : List (ℕ × ℕ)) → list_all (multiplier_fits 4096) lam ≡ true → Differ all_zero lam
nonzero [] each = tt
nonzero (m ∷ lam) each =
    let a = and_parts (multiplier_fits 4096 m) (list_all (multiplier_fits 4096) lam) each in
    (λ same. absurd (omega (arith, (fit_parts m a.0).1, same)), nonzero lam a.1)

most_at : (lam : List (ℕ × ℕ)) (line : ℕ) → list_all (multiplier_fits 4096) lam ≡ true → multiplier lam line ≤ 2 ^ 44
most_at [] line each = omega arith
most_at (m ∷ lam) line each =
    let a = and_parts (multiplier_fits 4096 m) (list_all (multiplier_fits 4096) lam) each in
    elim (cases_eq m.0 line) as (λ _. multiplier (m ∷ lam) line ≤ 2 ^ 44) [
      | inl is ↦ subst (λ (o : Option ℕ). unwrap_or o 0 ≤ 2 ^ 44) (sym (at_head m lam line is)) (fit_parts m a.0).2
      | inr other ↦ subst (λ (o : Option ℕ). unwrap_or o 0 ≤ 2 ^ 44) (sym (at_tail m lam line other)) (most_at lam line a.1)
    ]

most_told : (own : ℕ → ℕ) (ms : List (ℕ × ℕ)) → ((line : ℕ) → own line ≤ 2 ^ 44) → Tell own ms → AtMost ms
most_told own [] most tells = tt
most_told own (m ∷ ms) most tells = (subst (λ (k : ℕ). k ≤ 2 ^ 44) (sym tells.0) (most m.0), most_told own ms most tells.1)

small_told : (line : ℕ) (ms : List (ℕ × ℕ)) → Rises line 4096 ms → AtMost ms → AllByRecursion IsSmall ms
small_told line [] rises most = tt
small_told line (m ∷ ms) rises most = ((omega (arith, rises.1), omega (arith, most.0)), small_told (suc m.0) ms rises.2 most.1)

pub rises_short : (line end : ℕ) (ms : List (ℕ × ℕ)) → line ≤ end → Rises line end ms → line + length ms ≤ end
rises_short line end [] within rises = omega arith
rises_short line end (m ∷ ms) within rises =
    let rest = rises_short (suc m.0) end ms (omega (arith, rises.1)) rises.2 in omega (arith, rest, rises.0)

-- ---- the multipliers of a node

made_told : (above : ℕ → ℕ) (ms lam : List (ℕ × ℕ)) → made_of above ms ≡ Some lam → Rises 0 4096 ms × Differ above ms × (list_of (behind above ms) ≡ lam)
made_told above ms lam e =
    let a = cond_some (rises_from 0 ms && list_all (differs above) ms) (list_of (behind above ms)) lam e in
    let b = and_parts (rises_from 0 ms) (list_all (differs above) ms) a.0 in
    (rises_told 0 ms b.0, differ_told above ms b.1, a.1)

-- the changes to what changes lead to are these changes
changes_back : (above : ℕ → ℕ) (ms : List (ℕ × ℕ)) → Rises 0 4096 ms → Differ above ms → changes above (multiplier (list_of (behind above ms))) ≡ ms
changes_back above ms rises differ =
    changes_of above (multiplier (list_of (behind above ms))) 0 4096 ms rises differ
    (λ l from below. changes_lead all_zero (behind above ms) 0 4096 l from below)

-- the multipliers that were made rise
pub made_rises : (told : Bool) (own : ℕ → ℕ) (r : Result (List (ℕ × ℕ)) RecordNo) → Gives (λ (lam : List (ℕ × ℕ)). lam) r (cond told (Some (list_of own)) None) → IfOk r (λ (lam : List (ℕ × ℕ)). Rises 0 4096 lam)
made_rises told own (Ok lam) given =
    let is = cond_some told (list_of own) lam given in
    subst (λ (x : List (ℕ × ℕ)). Rises 0 4096 x) is.1 (changes_rise all_zero own 0 4096)
made_rises told own (Err e) given = tt

pub lam_takes : (above : ℕ → ℕ) (bytes : List ℕ) (x : List (ℕ × ℕ) × List ℕ) → IsBytes bytes → lam_at above bytes ≡ Some x → Takes bytes (lam_text above x.0) x.1
unfolding lam_at
lam_takes above bytes x fits e =
    let a = bind_some (list_at multiplier_at bytes) (λ ms. made_of above ms.0 >>= λ lam. Some (lam, ms.1)) x e in
    let b = bind_some (made_of above a.0.0) (λ lam. Some (lam, a.0.1)) x a.2 in
    let list = list_takes multiplier_text multiplier_at each_takes bytes a.0 fits a.1 in
    let made = made_told above a.0.0 b.0 b.1 in
    let same : changes above (multiplier b.0) ≡ a.0.0 = ap (λ (lam : List (ℕ × ℕ)). changes above (multiplier lam)) (sym made.2) ∙ changes_back above a.0.0 made.0 made.1 in
    subst (λ (y : List (ℕ × ℕ) × List ℕ). Takes bytes (lam_text above y.0) y.1) (some_is (b.0, a.0.1) x b.2)
    (subst (λ (ms : List (ℕ × ℕ)). Takes bytes (list_text multiplier_text ms) a.0.1) (sym same) list.0)

pub lam_again : (above : ℕ → ℕ) (lam : List (ℕ × ℕ)) (rest : List ℕ) → lam_fits 4096 lam ≡ true → lam_at above (lam_text above lam ++ rest) ≡ Some (lam, rest)
unfolding lam_at
lam_again above lam rest fits =
    let each = (and_parts (list_all (multiplier_fits 4096) lam) (is_rising (map (λ (m : ℕ × ℕ). m.0) lam)) fits).0 in
    let ms : List (ℕ × ℕ) = changes above (multiplier lam) in
    let rises : Rises 0 4096 (changes above (multiplier lam)) = changes_rise above (multiplier lam) 0 4096 in
    let most = most_told (multiplier lam) (changes above (multiplier lam)) (λ line. most_at lam line each) (changes_tell above (multiplier lam) 0 4096) in
    let short : length (changes above (multiplier lam)) < 2 ^ 16 = omega (arith, rises_short 0 4096 (changes above (multiplier lam)) (omega arith) rises) in
    let read = list_again IsSmall multiplier_text multiplier_at each_again (changes above (multiplier lam)) rest short (small_told 0 (changes above (multiplier lam)) rises most) in
    let test : (rises_from 0 (changes above (multiplier lam)) && list_all (differs above) (changes above (multiplier lam))) ≡ true =
    and_from _ _ (rises_tells 0 (changes above (multiplier lam)) rises most) (differ_tells above (changes above (multiplier lam)) (changes_differ above (multiplier lam) 0 4096)) in
    let own : list_of (behind above (changes above (multiplier lam))) ≡ lam =
    changes_of all_zero (behind above (changes above (multiplier lam))) 0 4096 lam (lam_rises lam fits) (nonzero lam each)
    (λ l from below. changes_lead above (multiplier lam) 0 4096 l from below) in
    rw (read, test, own) refl
