use Rattle.std.proofs.Common.{Bool, true, false, Option, Some, None, if◌then◌else◌, ◌≡◌, ◌≢◌, inl, inr, ℕ, ◌<◌, ◌+◌, List, [], ◌∷◌, ◌++◌, length, take, drop, get_or, set, refl, ap, sym, ◌∙◌, subst}
use Rattle.std.specs.List.{All}
use Rattle.std.proofs.lemmas.Bool.{cases_eq, cases_lt}
use Rattle.std.proofs.lemmas.List.{set_comm, set-set, set-get_or, get_or-set_same, get_or-set_other, get_or_past, take_more, drop_more}
use Rattle.std.proofs.lemmas.List.Elements.{All-push}
use Rattle.dali_problem.specs.declared.mark.Mark.{Mark}
use Rattle.dali_problem.specs.declared.mark.Mark.TheVariants.{Stranger, Undecided}
use Rattle.dali_problem.specs.Partial.{mark}
use Rattle.dali_tree.specs.declared.fix.Fix.{Fix}
use Rattle.dali_tree.specs.declared.fix.Fix.TheVariants.{Barred, Needed, Safe}
use Rattle.dali_fixes.specs.Fixed.{place_of, becomes, holds, after, undone}
use Rattle.dali_problem.specs.Clearing.{Clearing}
use Rattle.dali_problem.proofs.Opened.{within_undecided}

-- one place more
pub undone_push : (fixes : List Fix) (fix : Fix) (f : List Mark) → undone (fixes ++ fix ∷ []) f ≡ set (undone fixes f) (place_of fix) Undecided
undone_push [] fix f = refl
undone_push (x ∷ fixes) fix f = undone_push fixes fix (set f (place_of x) Undecided)

two_places : (f : List Mark) (i j : ℕ) → set (set f i Undecided) j Undecided ≡ set (set f j Undecided) i Undecided
two_places f i j = elim (cases_eq i j) as (λ _. set (set f i Undecided) j Undecided ≡ set (set f j Undecided) i Undecided) [
  | inl same ↦ ap (λ k. set (set f k Undecided) j Undecided) same ∙ ap (λ k. set (set f j Undecided) k Undecided) (sym same)
  | inr other ↦ set_comm f i j Undecided Undecided other
]

undone_set : (fixes : List Fix) (j : ℕ) (f : List Mark) → set (undone fixes f) j Undecided ≡ undone fixes (set f j Undecided)
undone_set [] j f = refl
undone_set (x ∷ fixes) j f =
    undone_set fixes j (set f (place_of x) Undecided) ∙ ap (undone fixes) (two_places f (place_of x) j)

pub undecided_again : (f : List Mark) (j : ℕ) → mark f j ≡ Undecided → set f j Undecided ≡ f
undecided_again f j was = ap (set f j) (sym was) ∙ set-get_or f j Stranger

-- a fix more is undone as the ones before were
pub undone_step : (fixes : List Fix) (i : ℕ) (d fix : Fix) (start f g : List Mark) → i < length fixes → fix ≡ get_or fixes i d →
    mark f (place_of fix) ≡ Undecided → g ≡ set f (place_of fix) (becomes fix) → undone (take i fixes) f ≡ start →
    undone (take (i + 1) fixes) g ≡ start
undone_step fixes i d fix start f g within read was is before =
    ap (λ (xs : List Fix). undone xs g) (take_more fixes i d within ∙ ap (λ (x : Fix). take i fixes ++ x ∷ []) (sym read))
    ∙ undone_push (take i fixes) fix g
    ∙ undone_set (take i fixes) (place_of fix) g
    ∙ ap (λ (h : List Mark). undone (take i fixes) (set h (place_of fix) Undecided)) is
    ∙ ap (undone (take i fixes)) (set-set f (place_of fix) (becomes fix) Undecided ∙ undecided_again f (place_of fix) was)
    ∙ before

-- a place that gets a mark of a member leaves members what they are
pub still_member : (f : List Mark) (i j : ℕ) (m : Mark) → m ≢ Stranger → mark f j ≢ Stranger → mark (set f i m) j ≢ Stranger
still_member f i j m member was = elim (cases_eq j i) as (λ _. mark (set f i m) j ≢ Stranger) [
  | inl same ↦ elim (cases_lt i (length f)) as (λ _. mark (set f i m) j ≢ Stranger) [
    | inl within ↦ (λ stranger. member (sym (get_or-set_same f i m Stranger within) ∙ sym (ap (mark (set f i m)) same) ∙ stranger))
    | inr past ↦ absurd (was (ap (mark f) same ∙ get_or_past f i Stranger past))
  ]
  | inr other ↦ (λ stranger. was (sym (get_or-set_other f i j m Stranger other) ∙ stranger))
]

pub becomes_member : (fix : Fix) → becomes fix ≢ Stranger
becomes_member (Barred place line) is = absurd (cc)
becomes_member (Needed place line) is = absurd (cc)
becomes_member (Safe place) is = absurd (cc)

-- a fix more leaves the places of all that were taken members
pub members_step : (fixes : List Fix) (i : ℕ) (d fix : Fix) (f g : List Mark) → i < length fixes → fix ≡ get_or fixes i d →
    mark f (place_of fix) ≡ Undecided → g ≡ set f (place_of fix) (becomes fix) →
    All (λ (x : Fix). mark f (place_of x) ≢ Stranger) (take i fixes) → All (λ (x : Fix). mark g (place_of x) ≢ Stranger) (take (i + 1) fixes)
members_step fixes i d fix f g within read was is before =
    let at : mark (set f (place_of fix) (becomes fix)) (place_of fix) ≡ becomes fix =
    get_or-set_same f (place_of fix) (becomes fix) Stranger (within_undecided f (place_of fix) was) in
    let kept : All (λ (x : Fix). mark g (place_of x) ≢ Stranger) (take i fixes) = λ k e below.
    subst (λ (h : List Mark). mark h (place_of (get_or (take i fixes) k e)) ≢ Stranger) (sym is)
    (still_member f (place_of fix) (place_of (get_or (take i fixes) k e)) (becomes fix) (becomes_member fix) (before k e below)) in
    let here : mark g (place_of fix) ≢ Stranger = λ stranger.
    becomes_member fix (sym at ∙ ap (λ (h : List Mark). mark h (place_of fix)) (sym is) ∙ stranger) in
    let more : take (i + 1) fixes ≡ take i fixes ++ fix ∷ [] =
    take_more fixes i d within ∙ ap (λ (x : Fix). take i fixes ++ x ∷ []) (sym read) in
    subst (λ (xs : List Fix). All (λ (x : Fix). mark g (place_of x) ≢ Stranger) xs) (sym more)
    (All-push (λ (x : Fix). mark g (place_of x) ≢ Stranger) (take i fixes) fix kept here)

-- a fix more leads where all that are left lead
pub after_step : (p : Clearing) (fixes : List Fix) (i : ℕ) (d fix : Fix) (f g : List Mark) → i < length fixes → fix ≡ get_or fixes i d →
    holds p f fix ≡ true → g ≡ set f (place_of fix) (becomes fix) →
    after p (drop (i + 1) fixes) g ≡ after p (drop i fixes) f
after_step p fixes i d fix f g within read told is =
    ap (after p (drop (i + 1) fixes)) is
    ∙ sym (ap (λ b. if b then after p (drop (i + 1) fixes) (set f (place_of fix) (becomes fix)) else None) told)
    ∙ ap (λ (x : Fix). after p (x ∷ drop (i + 1) fixes) f) read
    ∙ ap (λ (xs : List Fix). after p xs f) (sym (drop_more fixes i d within))

-- a fix more is taken where those before were
after_push : (p : Clearing) (fixes : List Fix) (fix : Fix) (f g : List Mark) → after p fixes f ≡ Some g → holds p g fix ≡ true →
    after p (fixes ++ fix ∷ []) f ≡ Some (set g (place_of fix) (becomes fix))
after_push p [] fix f g before told =
    let same : f ≡ g = cc before in
    ap (λ (h : List Mark). after p (fix ∷ []) h) same
    ∙ ap (λ b. if b then Some (set g (place_of fix) (becomes fix)) else None) told
after_push p (x ∷ fixes) fix f g before told =
    by_holds (holds p f x) (after p fixes (set f (place_of x) (becomes x))) (after p (fixes ++ fix ∷ []) (set f (place_of x) (becomes x)))
    (Some g) (Some (set g (place_of fix) (becomes fix))) before
    (λ taken. after_push p fixes fix (set f (place_of x) (becomes x)) g taken told)
    (λ none. absurd (cc none))
  where
    by_holds : (b : Bool) (fewer all x y : Option (List Mark)) → (if b then fewer else None) ≡ x → (fewer ≡ x → all ≡ y) →
        (None ≡ x → ⊥) → (if b then all else None) ≡ y
    by_holds true fewer all x y is go wrong = go is
    by_holds false fewer all x y is go wrong = absurd (wrong is)

pub taken_step : (p : Clearing) (fixes : List Fix) (i : ℕ) (d fix : Fix) (start f g : List Mark) → i < length fixes → fix ≡ get_or fixes i d →
    holds p f fix ≡ true → g ≡ set f (place_of fix) (becomes fix) → after p (take i fixes) start ≡ Some f →
    after p (take (i + 1) fixes) start ≡ Some g
taken_step p fixes i d fix start f g within read told is before =
    let more : take (i + 1) fixes ≡ take i fixes ++ fix ∷ [] =
    take_more fixes i d within ∙ ap (λ (x : Fix). take i fixes ++ x ∷ []) (sym read) in
    ap (λ (xs : List Fix). after p xs start) more
    ∙ after_push p (take i fixes) fix start f before told
    ∙ ap Some (sym is)
