use Rattle.std.proofs.Common.{◌≡◌, ◌≢◌, ℕ, ◌<◌, Bool, true, false, Some, List, length, get_or, set, if◌then◌else◌, refl, ap, sym, ◌∙◌, subst, arith}
use Rattle.std.specs.List.{list_all}
use Rattle.std.proofs.lemmas.List.{get_or_default}
use Rattle.dali_problem.specs.declared.mark.Mark.{Mark}
use Rattle.dali_problem.specs.declared.mark.Mark.TheVariants.{Stranger}
use Rattle.dali_problem.specs.Clearing.{Clearing}
use Rattle.dali_problem.specs.Partial.{mark}
use Rattle.dali_tree.specs.declared.fix.Fix.{Fix}
use Rattle.dali_tree.specs.Fits.{fix_fits}
use Rattle.dali_fixes.specs.Fixed.{after}
use Rattle.dali_fixes.proofs.Undoing.{still_member}
use Rattle.dali_search.specs.declared.node.Node.{Node}
use Rattle.dali_search.specs.declared.node.NodeEnd.{NodeEnd}
use Rattle.dali_search.specs.declared.node.NodeEnd.TheVariants.{Branched}
use Rattle.dali_search.specs.declared.node.Total.{Total}
use Rattle.dali_search.specs.Nodes.{node_at, no_node, total_of, LinksDown, AreTotals}
use Rattle.dali_search.specs.Arena.{IsBranchedAt, EndHolds, IsArena, SomeArena, HoldFrom}
use Rattle.dali_search.specs.Descent.{side_mark, IsDown, IsTurned}
use Rattle.dali_search.proofs.Falling.{some_same}
use Rattle.dali_search.proofs.Members.{member_after}

-- an element as it was read
pub node_is : (nodes : List Node) (k : ℕ) (read : Node) → k < length nodes → read ≡ get_or nodes k read → node_at nodes k ≡ read
node_is nodes k read below is = get_or_default nodes k no_node read below ∙ sym is

-- how a side is entered
branched_at : (p : Clearing) (u v : ℕ) (nodes : List Node) (enter : ℕ → List Mark) (f : List Mark) (k place : ℕ) (lam : List (ℕ × ℕ)) (inside outside : ℕ) →
    IsArena p u v nodes enter → k < length nodes → (node_at nodes k).end ≡ Branched place lam inside outside →
    after p (node_at nodes k).fixes (enter k) ≡ Some f → IsBranchedAt p u enter f place lam inside outside
branched_at p u v nodes enter f k place lam inside outside arena below is leads =
    let at = arena.each k below in
    subst (λ (e : NodeEnd). EndHolds p u v enter f e) is
    (subst (λ (g : List Mark). EndHolds p u v enter g (node_at nodes k).end) (some_same (after p (node_at nodes k).fixes (enter k)) at.leads f at.fixed leads) at.ends)

pub down_of : (p : Clearing) (u v : ℕ) (nodes : List Node) (totals : List Total) (enter : ℕ → List Mark) (f : List Mark) (k place : ℕ) (lam : List (ℕ × ℕ)) (inside outside : ℕ) →
    IsArena p u v nodes enter → AreTotals nodes totals → k < length nodes → (node_at nodes k).end ≡ Branched place lam inside outside →
    after p (node_at nodes k).fixes (enter k) ≡ Some f → IsDown p f nodes totals k place inside outside
down_of p u v nodes totals enter f k place lam inside outside arena exact below is leads =
    let at = branched_at p u v nodes enter f k place lam inside outside arena below is leads in
    let down = subst (λ (e : NodeEnd). LinksDown nodes k e) is (arena.linked.down k below) in
    let inner = arena.each inside (omega (arith, down.1, down.2)) in
    let outer = arena.each outside down.2 in
    record {
      undecided = at.undecided;
      order = down.0;
      next = down.1;
      within = down.2;
      size = exact.size;
      greatest = ap (λ (t : Total). t.greatest) (exact.each k below) ∙ ap (λ (e : NodeEnd). (total_of totals e).greatest) is;
      inner_fits = inner.fits;
      outer_fits = outer.fits;
      inner_holds = record { leads = inner.leads; fixed = ap (after p (node_at nodes inside).fixes) (sym at.inner) ∙ inner.fixed };
      outer_holds = record { leads = outer.leads; fixed = ap (after p (node_at nodes outside).fixes) (sym at.outer) ∙ outer.fixed };
    }

-- the root
pub root_fits : (p : Clearing) (f : List Mark) (nodes : List Node) → SomeArena p f nodes → list_all (fix_fits (length p.items) (length p.lines)) (node_at nodes 0).fixes ≡ true
root_fits p f nodes some = (some.has.arena.each 0 some.has.arena.linked.some).fits

pub root_holds : (p : Clearing) (f : List Mark) (nodes : List Node) → SomeArena p f nodes → HoldFrom p f (node_at nodes 0).fixes
root_holds p f nodes some =
    let at = some.has.arena.each 0 some.has.arena.linked.some in
    record { leads = at.leads; fixed = ap (after p (node_at nodes 0).fixes) (sym some.has.root) ∙ at.fixed }

-- where fixes lead from a side, they lead from where it is entered
pub enters_side : (p : Clearing) (u v : ℕ) (nodes : List Node) (enter : ℕ → List Mark) (f g : List Mark) (k place : ℕ) (lam : List (ℕ × ℕ)) (inside outside : ℕ) (chosen : Bool) →
    IsArena p u v nodes enter → k < length nodes → (node_at nodes k).end ≡ Branched place lam inside outside → after p (node_at nodes k).fixes (enter k) ≡ Some f →
    after p (node_at nodes (if chosen then inside else outside)).fixes (set f place (side_mark chosen)) ≡ Some g →
    after p (node_at nodes (if chosen then inside else outside)).fixes (enter (if chosen then inside else outside)) ≡ Some g
enters_side p u v nodes enter f g k place lam inside outside true arena below is leads behind =
    ap (after p (node_at nodes inside).fixes) (branched_at p u v nodes enter f k place lam inside outside arena below is leads).inner ∙ behind
enters_side p u v nodes enter f g k place lam inside outside false arena below is leads behind =
    ap (after p (node_at nodes outside).fixes) (branched_at p u v nodes enter f k place lam inside outside arena below is leads).outer ∙ behind

mark_member : (chosen : Bool) → side_mark chosen ≢ Stranger
mark_member true is = absurd (cc)
mark_member false is = absurd (cc)

pub side_members : (p : Clearing) (f g h : List Mark) (place : ℕ) (chosen : Bool) (fixes : List Fix) → g ≡ set f place (side_mark chosen) → after p fixes g ≡ Some h →
    (j : ℕ) → mark f j ≢ Stranger → mark h j ≢ Stranger
side_members p f g h place chosen fixes is leads j member =
    member_after p fixes g h j leads (subst (λ (m : List Mark). mark m j ≢ Stranger) (sym is) (still_member f place j (side_mark chosen) (mark_member chosen) member))

-- a step of the walk down
pub turned_leads : (p : Clearing) (u v : ℕ) (nodes : List Node) (enter : ℕ → List Mark) (f g : List Mark) (k place : ℕ) (lam : List (ℕ × ℕ)) (inside outside at : ℕ) →
    IsArena p u v nodes enter → k < length nodes → (node_at nodes k).end ≡ Branched place lam inside outside → after p (node_at nodes k).fixes (enter k) ≡ Some f →
    IsTurned p f g nodes place inside outside at → after p (node_at nodes at).fixes (enter at) ≡ Some g
turned_leads p u v nodes enter f g k place lam inside outside at arena below is leads turned =
    subst (λ (i : ℕ). after p (node_at nodes i).fixes (enter i) ≡ Some g) (sym turned.is)
    (enters_side p u v nodes enter f g k place lam inside outside turned.chosen arena below is leads
    (subst (λ (i : ℕ). after p (node_at nodes i).fixes (set f place (side_mark turned.chosen)) ≡ Some g) turned.is turned.leads))

pub turned_members : (p : Clearing) (f g : List Mark) (nodes : List Node) (place inside outside at : ℕ) → IsTurned p f g nodes place inside outside at →
    (j : ℕ) → mark f j ≢ Stranger → mark g j ≢ Stranger
turned_members p f g nodes place inside outside at turned j member =
    side_members p f (set f place (side_mark turned.chosen)) g place turned.chosen (node_at nodes at).fixes refl turned.leads j member
