use Rattle.std.proofs.Common.{◌≡◌, ◌≢◌, ℕ, ◌+◌, ◌<◌, ◌≤◌, false, List, [], ◌∷◌, length, set, Some, refl, ap, sym, ◌∙◌, subst, cond, arith}
use Rattle.std.specs.List.{All}
use Rattle.std.proofs.lemmas.List.{get_or-set_same}
use Rattle.std.proofs.lemmas.List.Sums.{count_by-le-length, sum_by-set}
use Rattle.std.proofs.lemmas.List.Elements.{All-nil, All-cons}
use Rattle.dali_problem.specs.declared.mark.Mark.{Mark}
use Rattle.dali_problem.specs.declared.mark.Mark.TheVariants.{Stranger, Undecided}
use Rattle.dali_problem.specs.Clearing.{Clearing}
use Rattle.dali_problem.specs.Partial.{mark, is_undecided}
use Rattle.dali_problem.proofs.Opened.{within_undecided}
use Rattle.dali_tree.specs.declared.fix.Fix.{Fix}
use Rattle.dali_tree.specs.declared.fix.Fix.TheVariants.{Barred, Needed, Safe}
use Rattle.dali_fixes.specs.Fixed.{place_of, becomes, after}
use Rattle.dali_fixes.proofs.Undoing.{still_member, becomes_member}
use Rattle.dali_reduce.specs.Reduced.{undecided_count}
use Rattle.dali_search.proofs.Falling.{taken_of}

-- one undecided place less
pub count_set : (f : List Mark) (j : ℕ) (m : Mark) → mark f j ≡ Undecided → is_undecided m ≡ false → undecided_count (set f j m) + 1 ≡ undecided_count f
count_set f j m was decided =
    let within = within_undecided f j was in
    let count : Mark → ℕ = λ (x : Mark). cond (is_undecided x) 1 0 in
    let moved = sum_by-set count f j m Stranger within in
    let one : count (mark f j) ≡ 1 = ap count was in
    let none : count m ≡ 0 = ap (λ b. cond b 1 0) decided in
    omega (arith, moved, one, none)

becomes_decided : (fix : Fix) → is_undecided (becomes fix) ≡ false
becomes_decided (Barred place line) = refl
becomes_decided (Needed place line) = refl
becomes_decided (Safe place) = refl

some_is : (f g : List Mark) → Some f ≡ Some g → f ≡ g
some_is f g is = cc

-- each fix decides a place
pub count_after : (p : Clearing) (fixes : List Fix) (f g : List Mark) → after p fixes f ≡ Some g → undecided_count g + length fixes ≡ undecided_count f
count_after p [] f g leads =
    let same : undecided_count f ≡ undecided_count g = ap undecided_count (some_is f g leads) in
    omega (arith, same)
count_after p (fix ∷ fixes) f g leads =
    let taken = taken_of p fix fixes f g leads in
    let next = count_after p fixes (set f (place_of fix) (becomes fix)) g taken.rest in
    let one = count_set f (place_of fix) (becomes fix) taken.undecided (becomes_decided fix) in
    omega (arith, next, one)

pub count_most : (f : List Mark) → undecided_count f ≤ length f
count_most f = count_by-le-length is_undecided f

-- members stay members
pub member_after : (p : Clearing) (fixes : List Fix) (f g : List Mark) (j : ℕ) → after p fixes f ≡ Some g → mark f j ≢ Stranger → mark g j ≢ Stranger
member_after p [] f g j leads was = subst (λ (h : List Mark). mark h j ≢ Stranger) (some_is f g leads) was
member_after p (fix ∷ fixes) f g j leads was =
    let taken = taken_of p fix fixes f g leads in
    member_after p fixes (set f (place_of fix) (becomes fix)) g j taken.rest (still_member f (place_of fix) j (becomes fix) (becomes_member fix) was)

member_here : (f : List Mark) (j : ℕ) (m : Mark) → j < length f → m ≢ Stranger → mark (set f j m) j ≢ Stranger
member_here f j m within member is = member (sym (get_or-set_same f j m Stranger within) ∙ is)

-- the places of fixes that were taken are members
pub fixed_members : (p : Clearing) (fixes : List Fix) (f g : List Mark) → after p fixes f ≡ Some g → All (λ (fix : Fix). mark g (place_of fix) ≢ Stranger) fixes
fixed_members p [] f g leads = All-nil (λ (fix : Fix). mark g (place_of fix) ≢ Stranger)
fixed_members p (fix ∷ fixes) f g leads =
    let taken = taken_of p fix fixes f g leads in
    let here = member_after p fixes (set f (place_of fix) (becomes fix)) g (place_of fix) taken.rest
    (member_here f (place_of fix) (becomes fix) (within_undecided f (place_of fix) taken.undecided) (becomes_member fix)) in
    All-cons (λ (x : Fix). mark g (place_of x) ≢ Stranger) fix fixes here
    (fixed_members p fixes (set f (place_of fix) (becomes fix)) g taken.rest)
