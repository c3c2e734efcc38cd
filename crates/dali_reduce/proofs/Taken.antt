use Rattle.std.proofs.Common.{◌≡◌, ◌≢◌, ◌⊎◌, inl, inr, ℕ, ◌+◌, ◌≤◌, true, false, ◌||◌, not, Some, None, if◌then◌else◌, List, [], ◌∷◌, ◌++◌, length, set, cond, refl, ap, sym, ◌∙◌, subst, arith}
use Rattle.std.specs.List.{All, list_all}
use Rattle.std.proofs.lemmas.Bool.{cases_Bool, cases_eq, and_parts, and_from}
use Rattle.std.proofs.lemmas.List.{append-nil, append_assoc, set_comm, set-set, length-append, length-set, get_or-set_same, get_or-set_other}
use Rattle.std.proofs.lemmas.List.Elements.{All-nil, All-cons}
use Rattle.std.proofs.lemmas.List.Folds.{list_all-append}
use Rattle.std.proofs.lemmas.List.Sums.{sum_by-set, count_by-le-length}
use Rattle.dali_problem.specs.declared.mark.Mark.{Mark}
use Rattle.dali_problem.specs.declared.mark.Mark.TheVariants.{Stranger, Undecided}
use Rattle.dali_problem.specs.Clearing.{Clearing, effect}
use Rattle.dali_problem.specs.Limits.{IsProblem}
use Rattle.dali_problem.specs.Partial.{mark, is_undecided}
use Rattle.dali_problem.specs.Rules.{is_negative, is_short, is_covered, all_below}
use Rattle.dali_problem.proofs.Opened.{within_undecided}
use Rattle.dali_problem.proofs.RuleTests.{undecided_is}
use Rattle.dali_tree.specs.declared.fix.Fix.{Fix}
use Rattle.dali_tree.specs.declared.fix.Fix.TheVariants.{Barred, Needed, Safe}
use Rattle.dali_tree.specs.Fits.{fix_fits}
use Rattle.dali_fixes.specs.Fixed.{place_of, becomes, holds, after, undone}
use Rattle.dali_fixes.proofs.Undoing.{undecided_again, becomes_member}
use Rattle.dali_reduce.specs.Reduced.{DecidesMore, undecided_count}
use Rattle.dali_reduce.specs.Run.{GoesOn}

none_some : (g : List Mark) → None ≡ Some g → ⊥
none_some g is = cc

some_is : (f g : List Mark) → Some f ≡ Some g → f ≡ g
some_is f g is = cc

-- a rule holds of an undecided place alone
pub holds_undecided : (p : Clearing) (f : List Mark) (fix : Fix) → holds p f fix ≡ true → mark f (place_of fix) ≡ Undecided
unfolding holds
holds_undecided p f (Barred j l) told = undecided_is (mark f j) (and_parts (is_undecided (mark f j)) (is_short p (set f j (becomes (Safe j))) l) told).0
holds_undecided p f (Needed j l) told = undecided_is (mark f j) (and_parts (is_undecided (mark f j)) (is_short p (set f j (becomes (Barred j l))) l) told).0
holds_undecided p f (Safe j) told = undecided_is (mark f j)
    (and_parts (is_undecided (mark f j)) (all_below (λ l. not (is_negative (effect p j l)) || is_covered p f l) (length p.lines)) told).0

-- the first of the fixes holds, and the others lead on from it
pub first_taken : (p : Clearing) (x : Fix) (xs : List Fix) (f g : List Mark) → after p (x ∷ xs) f ≡ Some g →
    (holds p f x ≡ true) × (after p xs (set f (place_of x) (becomes x)) ≡ Some g)
first_taken p x xs f g leads =
    let h : List Mark = set f (place_of x) (becomes x) in
    elim (cases_Bool (holds p f x)) as (λ _. (holds p f x ≡ true) × (after p xs h ≡ Some g)) [
      | inl told ↦ (told, sym (ap (λ b. if b then after p xs h else None) told) ∙ leads)
      | inr refused ↦ absurd (none_some g (sym (ap (λ b. if b then after p xs h else None) refused) ∙ leads))
    ]

pub after_append : (p : Clearing) (xs ys : List Fix) (f g : List Mark) → after p xs f ≡ Some g → after p (xs ++ ys) f ≡ after p ys g
after_append p [] ys f g leads = ap (after p ys) (some_is f g leads)
after_append p (x ∷ xs) ys f g leads =
    let first = first_taken p x xs f g leads in
    ap (λ b. if b then after p (xs ++ ys) (set f (place_of x) (becomes x)) else None) first.0
    ∙ after_append p xs ys (set f (place_of x) (becomes x)) g first.1

-- nothing taken, and taken in two goes
pub goes_none : (p : Clearing) (f : List Mark) (fixes : List Fix) → GoesOn p f f fixes fixes
goes_none p f fixes = record { more = []; added = sym (append-nil fixes); leads = refl; fit = refl }

pub goes_both : (p : Clearing) (f g h : List Mark) (a b c : List Fix) → GoesOn p f g a b → GoesOn p g h b c → GoesOn p f h a c
goes_both p f g h a b c first second = record {
  more = first.more ++ second.more;
  added = second.added ∙ ap (λ xs. xs ++ second.more) first.added ∙ append_assoc a first.more second.more;
  leads = after_append p first.more second.more f g first.leads ∙ second.leads;
  fit = list_all-append (fix_fits (length p.items) (length p.lines)) first.more second.more
      ∙ and_from (list_all (fix_fits (length p.items) (length p.lines)) first.more) (list_all (fix_fits (length p.items) (length p.lines)) second.more) first.fit second.fit;
}

two_places : (f : List Mark) (i j : ℕ) → set (set f i Undecided) j Undecided ≡ set (set f j Undecided) i Undecided
two_places f i j = elim (cases_eq i j) as (λ _. set (set f i Undecided) j Undecided ≡ set (set f j Undecided) i Undecided) [
  | inl same ↦ ap (λ k. set (set f k Undecided) j Undecided) same ∙ ap (λ k. set (set f j Undecided) k Undecided) (sym same)
  | inr other ↦ set_comm f i j Undecided Undecided other
]

undone_set : (fixes : List Fix) (j : ℕ) (f : List Mark) → set (undone fixes f) j Undecided ≡ undone fixes (set f j Undecided)
undone_set [] j f = refl
undone_set (x ∷ fixes) j f =
    undone_set fixes j (set f (place_of x) Undecided) ∙ ap (undone fixes) (two_places f (place_of x) j)

-- what was taken can be taken back
pub taken_back : (p : Clearing) (fixes : List Fix) (f g : List Mark) → after p fixes f ≡ Some g → undone fixes g ≡ f
taken_back p [] f g leads = sym (some_is f g leads)
taken_back p (x ∷ xs) f g leads =
    let first = first_taken p x xs f g leads in
    let rest = taken_back p xs (set f (place_of x) (becomes x)) g first.1 in
    sym (undone_set xs (place_of x) g)
    ∙ ap (λ (h : List Mark). set h (place_of x) Undecided) rest
    ∙ set-set f (place_of x) (becomes x) Undecided
    ∙ undecided_again f (place_of x) (holds_undecided p f x first.0)

-- one undecided member less for each
pub becomes_decided : (x : Fix) → is_undecided (becomes x) ≡ false
becomes_decided (Barred j l) = refl
becomes_decided (Needed j l) = refl
becomes_decided (Safe j) = refl

-- 1 for an undecided mark
abbrev one_if : Mark → ℕ
one_if m = cond (is_undecided m) 1 0

one_less : (f : List Mark) (j : ℕ) (m : Mark) → mark f j ≡ Undecided → is_undecided m ≡ false → undecided_count (set f j m) + 1 ≡ undecided_count f
one_less f j m was is =
    let put = sum_by-set one_if f j m Stranger (within_undecided f j was) in
    let here : one_if (mark f j) ≡ one_if Undecided = ap one_if was in
    let gone : one_if m ≡ one_if Stranger = ap (λ b. cond b 1 0) is in
    omega (arith, put, here, gone)

pub taken_counted : (p : Clearing) (fixes : List Fix) (f g : List Mark) → after p fixes f ≡ Some g → undecided_count g + length fixes ≡ undecided_count f
taken_counted p [] f g leads = omega (arith, ap undecided_count (some_is f g leads))
taken_counted p (x ∷ xs) f g leads =
    let first = first_taken p x xs f g leads in
    let rest = taken_counted p xs (set f (place_of x) (becomes x)) g first.1 in
    let less = one_less f (place_of x) (becomes x) (holds_undecided p f x first.0) (becomes_decided x) in
    omega (arith, rest, less)

pub taken_few : (p : Clearing) (fixes : List Fix) (f g : List Mark) → IsProblem p → length f ≡ length p.items → after p fixes f ≡ Some g → length fixes ≤ 1024
taken_few p fixes f g limits size leads =
    let counted = taken_counted p fixes f g leads in
    let most = count_by-le-length is_undecided f in
    omega (arith, counted, most, size, limits.items)

-- members stay, and what was decided stays
undecided_stranger : Undecided ≡ Stranger → ⊥
undecided_stranger is = cc

decided_off : (x : Fix) → becomes x ≢ Undecided
decided_off (Barred j l) is = absurd (cc)
decided_off (Needed j l) is = absurd (cc)
decided_off (Safe j) is = absurd (cc)

one_more : (f : List Mark) (x : Fix) → mark f (place_of x) ≡ Undecided → DecidesMore f (set f (place_of x) (becomes x))
one_more f x was = record {
  size = length-set f (place_of x) (becomes x);
  kept = (λ j decided. get_or-set_other f (place_of x) j (becomes x) Stranger (λ same. decided (ap (mark f) same ∙ was)));
  members = (λ j undecided. elim (cases_eq j (place_of x)) as (λ _. mark (set f (place_of x) (becomes x)) j ≢ Stranger) [
    | inl same ↦ λ stranger. becomes_member x
        (sym (get_or-set_same f (place_of x) (becomes x) Stranger (within_undecided f (place_of x) was))
        ∙ ap (mark (set f (place_of x) (becomes x))) (sym same) ∙ stranger)
    | inr other ↦ λ stranger. undecided_stranger
        (sym undecided ∙ sym (get_or-set_other f (place_of x) j (becomes x) Stranger other) ∙ stranger)
  ]);
}

undecided_cases : (m : Mark) → (m ≡ Undecided) ⊎ (m ≢ Undecided)
undecided_cases m = elim (cases_Bool (is_undecided m)) as (λ _. (m ≡ Undecided) ⊎ (m ≢ Undecided)) [
  | inl told ↦ inl (undecided_is m told)
  | inr other ↦ inr (λ is. true_false (ap is_undecided (sym is) ∙ other))
]
  where
    true_false : true ≡ false → ⊥
    true_false is = cc

more_both : (f g h : List Mark) → DecidesMore f g → DecidesMore g h → DecidesMore f h
more_both f g h first second = record {
  size = second.size ∙ first.size;
  kept = (λ j decided. second.kept j (λ is. decided (sym (first.kept j decided) ∙ is)) ∙ first.kept j decided);
  members = (λ j undecided. elim (undecided_cases (mark g j)) as (λ _. mark h j ≢ Stranger) [
    | inl still ↦ second.members j still
    | inr decided ↦ λ stranger. first.members j undecided (sym (second.kept j decided) ∙ stranger)
  ]);
}

pub taken_more : (p : Clearing) (fixes : List Fix) (f g : List Mark) → after p fixes f ≡ Some g → DecidesMore f g
taken_more p [] f g leads = subst (DecidesMore f) (some_is f g leads) (record {
  size = refl;
  kept = λ j decided. refl;
  members = λ j undecided stranger. undecided_stranger (sym undecided ∙ stranger);
})
taken_more p (x ∷ xs) f g leads =
    let first = first_taken p x xs f g leads in
    more_both f (set f (place_of x) (becomes x)) g (one_more f x (holds_undecided p f x first.0)) (taken_more p xs (set f (place_of x) (becomes x)) g first.1)

-- the places of what was taken are members
pub taken_members : (p : Clearing) (fixes : List Fix) (f g : List Mark) → after p fixes f ≡ Some g → All (λ (x : Fix). mark g (place_of x) ≢ Stranger) fixes
taken_members p [] f g leads = All-nil (λ (x : Fix). mark g (place_of x) ≢ Stranger)
taken_members p (x ∷ xs) f g leads =
    let first = first_taken p x xs f g leads in
    let h : List Mark = set f (place_of x) (becomes x) in
    let put : mark h (place_of x) ≡ becomes x =
    get_or-set_same f (place_of x) (becomes x) Stranger (within_undecided f (place_of x) (holds_undecided p f x first.0)) in
    let rest = taken_more p xs h g first.1 in
    All-cons (λ (y : Fix). mark g (place_of y) ≢ Stranger) x xs
    (λ stranger. becomes_member x (sym put ∙ sym (rest.kept (place_of x) (λ is. decided_off x (sym put ∙ is))) ∙ stranger))
    (taken_members p xs h g first.1)

-- where nothing was taken before, the fixes are all that was taken
pub goes_leads : (p : Clearing) (f g : List Mark) (fixes : List Fix) → GoesOn p f g [] fixes → after p fixes f ≡ Some g
goes_leads p f g fixes goes = ap (λ (xs : List Fix). after p xs f) goes.added ∙ goes.leads

-- what is undecided and what is taken are as many together as before
pub goes_counted : (p : Clearing) (f g : List Mark) (old new : List Fix) → GoesOn p f g old new →
    undecided_count g + length new ≡ undecided_count f + length old
goes_counted p f g old new goes =
    let counted = taken_counted p goes.more f g goes.leads in
    let size : length new ≡ length (old ++ goes.more) = ap length goes.added in
    omega (arith, counted, size, length-append old goes.more)

-- fixes that fit, and more that do
pub goes_fit : (p : Clearing) (f g : List Mark) (old new : List Fix) → GoesOn p f g old new →
    list_all (fix_fits (length p.items) (length p.lines)) old ≡ true → list_all (fix_fits (length p.items) (length p.lines)) new ≡ true
goes_fit p f g old new goes fit =
    ap (list_all (fix_fits (length p.items) (length p.lines))) goes.added
    ∙ list_all-append (fix_fits (length p.items) (length p.lines)) old goes.more
    ∙ and_from (list_all (fix_fits (length p.items) (length p.lines)) old) (list_all (fix_fits (length p.items) (length p.lines)) goes.more) fit goes.fit
