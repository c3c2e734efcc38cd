use Rattle.std.proofs.Common.{◌≡◌, inl, inr, ℕ, ◌+◌, ◌<◌, List, length, set, ap, sym, ◌∙◌, arith}
use Rattle.std.proofs.lemmas.Bool.{cases_eq}
use Rattle.std.proofs.lemmas.List.{get_or-set_same, get_or-set_other}
use Rattle.dali_problem.specs.declared.mark.Mark.{Mark}
use Rattle.dali_problem.specs.declared.mark.Mark.TheVariants.{Stranger, Undecided}
use Rattle.dali_problem.specs.Partial.{mark}
use Rattle.dali_search.proofs.Starting.{is_start}
use Rattle.dali_search.proofs.places.reset.Goals as goal

one_more : (f g : List Mark) (at : ℕ) → at < length f → g ≡ set f at Undecided → ((j : ℕ) → j < at → mark f j ≡ Undecided) → (j : ℕ) → j < at + 1 → mark g j ≡ Undecided
one_more f g at within is done j below = ap (λ (h : List Mark). mark h j) is ∙ elim (cases_eq j at) as (λ _. mark (set f at Undecided) j ≡ Undecided) [
  | inl here ↦ ap (mark (set f at Undecided)) here ∙ get_or-set_same f at Undecided Stranger within
  | inr off ↦ get_or-set_other f at j Undecided Stranger off ∙ done j (omega (arith, below, off))
]

pub release-requires-clause-member : goal.release-requires-clause-member
release-requires-clause-member c is =
    c.requires.members c.loop-place.place (omega (arith, c.loop-place-test.true, c.items-place-end.ensures.count))
    (sym (c.loop-place.invariant.rest c.loop-place.place (omega arith)) ∙ is)

pub loop-place-preserved : goal.loop-place-preserved
loop-place-preserved c = record {
  of = c.release.ensures.of;
  done = one_more c.loop-place.partial.marks c.release.new.partial.marks c.loop-place.place
      (omega (arith, c.loop-place-test.true, c.items-place-end.ensures.count, c.loop-place.invariant.of.marks)) c.release.ensures.marks c.loop-place.invariant.done;
  rest = (λ j past. ap (λ (h : List Mark). mark h j) c.release.ensures.marks
      ∙ get_or-set_other c.loop-place.partial.marks c.loop-place.place j Undecided Stranger (omega (arith, past)) ∙ c.loop-place.invariant.rest j (omega (arith, past)));
}

pub returns-clause-start : goal.returns-clause-start
returns-clause-start c =
    is_start c.args.problem.now c.loop-place.partial.marks c.loop-place.invariant.of.marks
    (λ j below. c.loop-place.invariant.done j (omega (arith, below, c.loop-place-test.false, c.items-place-end.ensures.count)))
