-- Reading items one after the other, as a loop does.
use Rattle.std.proofs.Common.{◌≡◌, ℕ, suc, ◌-◌, ◌+◌, ◌≤◌, ◌<◌, List, [], ◌∷◌, ◌++◌, Option, Some, None, refl, sym, ap, ◌∙◌, append_assoc, arith}
use Rattle.std.proofs.lemmas.List.{append-nil}
use Rattle.dali_tree.specs.declared.choice.Part.{Part}
use Rattle.dali_record.specs.declared.refusal.RecordNo.{RecordNo}
use Rattle.dali_record.specs.declared.refusal.RecordNo.TheVariants as errors
use Rattle.dali_record.specs.Reading.{◌>>=◌, Fails, items_at}
use Rattle.dali_record.specs.EntryReading.{part_at, parts_at}

-- what was read before, and what is still read
abbrev pub with_front : {A : Type 0} → List A → Option (List A × List ℕ) → Option (List A × List ℕ)
with_front front read = read >>= λ x. Some (front ++ x.0, x.1)

regroup : {A : Type 0} (front : List A) (x : A) (read : Option (List A × List ℕ)) → with_front front (read >>= λ y. Some (x ∷ y.0, y.1)) ≡ with_front (front ++ x ∷ []) read
regroup front x (Some y) = ap (λ (xs : List _). Some (xs, y.1)) (simp append_assoc)
regroup front x None = refl

starts : {A : Type 0} (read : Option (List A × List ℕ)) → with_front [] read ≡ read
starts (Some y) = refl
starts None = refl

pub loop_starts : {A : Type 0} (one : List ℕ → Option (A × List ℕ)) (count : ℕ) (bytes : List ℕ) → with_front [] (items_at one (count - 0) bytes) ≡ items_at one count bytes
loop_starts one count bytes =
    let all : count - 0 ≡ count = omega arith in
    ap (λ (k : ℕ). with_front [] (items_at one k bytes)) all ∙ starts (items_at one count bytes)

pub goes_on : {A : Type 0} (one : List ℕ → Option (A × List ℕ)) (front : List A) (count i : ℕ) (bytes : List ℕ) (x : A) (after : List ℕ) (total : Option (List A × List ℕ)) → i < count → one bytes ≡ Some (x, after)
    → with_front front (items_at one (count - i) bytes) ≡ total → with_front (front ++ x ∷ []) (items_at one (count - (i + 1)) after) ≡ total
unfolding items_at
goes_on one front count i bytes x after total lt h so_far =
    let k : count - i ≡ suc (count - (i + 1)) = omega arith in
    let step : with_front front (items_at one (count - i) bytes) ≡ with_front (front ++ x ∷ []) (items_at one (count - (i + 1)) after) = rw (k, h) (regroup front x (items_at one (count - (i + 1)) after)) in
    sym step ∙ so_far

pub ends : {A : Type 0} (e : RecordNo) (one : List ℕ → Option (A × List ℕ)) (front : List A) (count i : ℕ) (bytes : List ℕ) (total : Option (List A × List ℕ)) → i < count → Fails e (one bytes)
    → with_front front (items_at one (count - i) bytes) ≡ total → Fails e total
unfolding items_at
ends errors.OutOfMemory one front count i bytes total lt h so_far = tt
ends errors.Form one front count i bytes total lt h so_far =
    let k : count - i ≡ suc (count - (i + 1)) = omega arith in
    let step : with_front front (items_at one (count - i) bytes) ≡ None = rw (k, h) refl in
    sym so_far ∙ step

pub is_done : {A : Type 0} (one : List ℕ → Option (A × List ℕ)) (front : List A) (count i : ℕ) (bytes : List ℕ) (total : Option (List A × List ℕ)) → count ≤ i →
    with_front front (items_at one (count - i) bytes) ≡ total → total ≡ Some (front, bytes)
unfolding items_at
is_done one front count i bytes total le so_far =
    let k : count - i ≡ 0 = omega arith in
    let step : with_front front (items_at one (count - i) bytes) ≡ Some (front, bytes) = rw k (ap (λ (xs : List _). Some (xs, bytes)) (append-nil front)) in
    sym so_far ∙ step

-- ---- the same of parts, with the branches that are left

abbrev pub with_parts : List Part → Option (List Part × ℕ × List ℕ) → Option (List Part × ℕ × List ℕ)
with_parts front read = read >>= λ x. Some (front ++ x.0, x.1, x.2)

regroup_parts : (front : List Part) (x : Part) (read : Option (List Part × ℕ × List ℕ)) → with_parts front (read >>= λ y. Some (x ∷ y.0, y.1, y.2)) ≡ with_parts (front ++ x ∷ []) read
regroup_parts front x (Some y) = ap (λ (xs : List Part). Some (xs, y.1, y.2)) (simp append_assoc)
regroup_parts front x None = refl

parts_start : (read : Option (List Part × ℕ × List ℕ)) → with_parts [] read ≡ read
parts_start (Some y) = refl
parts_start None = refl

pub parts_loop_starts : (count left : ℕ) (bytes : List ℕ) → with_parts [] (parts_at (count - 0) left bytes) ≡ parts_at count left bytes
parts_loop_starts count left bytes =
    let all : count - 0 ≡ count = omega arith in
    ap (λ (k : ℕ). with_parts [] (parts_at k left bytes)) all ∙ parts_start (parts_at count left bytes)

pub parts_go_on : (front : List Part) (count i left : ℕ) (bytes : List ℕ) (x : Part) (behind : ℕ) (after : List ℕ) (total : Option (List Part × ℕ × List ℕ)) → i < count →
    part_at left bytes ≡ Some (x, behind, after) → with_parts front (parts_at (count - i) left bytes) ≡ total → with_parts (front ++ x ∷ []) (parts_at (count - (i + 1)) behind after) ≡ total
unfolding parts_at
parts_go_on front count i left bytes x behind after total lt h so_far =
    let k : count - i ≡ suc (count - (i + 1)) = omega arith in
    let step : with_parts front (parts_at (count - i) left bytes) ≡ with_parts (front ++ x ∷ []) (parts_at (count - (i + 1)) behind after) =
    rw (k, h) (regroup_parts front x (parts_at (count - (i + 1)) behind after)) in
    sym step ∙ so_far

pub parts_end : (e : RecordNo) (front : List Part) (count i left : ℕ) (bytes : List ℕ) (total : Option (List Part × ℕ × List ℕ)) → i < count → Fails e (part_at left bytes)
    → with_parts front (parts_at (count - i) left bytes) ≡ total → Fails e total
unfolding parts_at
parts_end errors.OutOfMemory front count i left bytes total lt h so_far = tt
parts_end errors.Form front count i left bytes total lt h so_far =
    let k : count - i ≡ suc (count - (i + 1)) = omega arith in
    let step : with_parts front (parts_at (count - i) left bytes) ≡ None = rw (k, h) refl in
    sym so_far ∙ step

pub parts_done : (front : List Part) (count i left : ℕ) (bytes : List ℕ) (total : Option (List Part × ℕ × List ℕ)) → count ≤ i →
    with_parts front (parts_at (count - i) left bytes) ≡ total → total ≡ Some (front, left, bytes)
unfolding parts_at
parts_done front count i left bytes total le so_far =
    let k : count - i ≡ 0 = omega arith in
    let step : with_parts front (parts_at (count - i) left bytes) ≡ Some (front, left, bytes) = rw k (ap (λ (xs : List Part). Some (xs, left, bytes)) (append-nil front)) in
    sym so_far ∙ step
