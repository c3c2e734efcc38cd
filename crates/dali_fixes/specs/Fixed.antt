use Rattle.std.specs.Prelude.{ℕ, Bool, List, [], ◌∷◌, Option, Some, None, if◌then◌else◌, slice_set}
use Rattle.dali_problem.specs.declared.mark.Mark.{Mark}
use Rattle.dali_problem.specs.declared.mark.Mark.TheVariants.{Undecided, Chosen, Left}
use Rattle.dali_problem.specs.Clearing.{Clearing}
use Rattle.dali_problem.specs.Rules.{is_barred, is_needed, is_safe}
use Rattle.dali_tree.specs.declared.fix.Fix.{Fix}
use Rattle.dali_tree.specs.declared.fix.Fix.TheVariants.{Barred, Needed, Safe}

-- the place that a fix names
abbrev pub place_of : Fix → ℕ
place_of (Barred place line) = place
place_of (Needed place line) = place
place_of (Safe place) = place

-- what becomes of that place
abbrev pub becomes : Fix → Mark
becomes (Barred place line) = Left
becomes (Needed place line) = Chosen
becomes (Safe place) = Chosen

-- the place is undecided, and the rule that the fix names holds
unfoldable pub holds : Clearing → List Mark → Fix → Bool
holds p f (Barred place line) = is_barred p f place line
holds p f (Needed place line) = is_needed p f place line
holds p f (Safe place) = is_safe p f place

-- the partial choice after fixes that are taken in order; none where one doesn't hold at its point
abbrev pub after : Clearing → List Fix → List Mark → Option (List Mark)
after p [] f = Some f
after p (fix ∷ fixes) f = if holds p f fix then after p fixes (slice_set f (place_of fix) (becomes fix)) else None

-- the partial choice with the places of these fixes undecided again
abbrev pub undone : List Fix → List Mark → List Mark
undone [] f = f
undone (fix ∷ fixes) f = undone fixes (slice_set f (place_of fix) Undecided)
