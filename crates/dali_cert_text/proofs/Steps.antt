use Rattle.std.proofs.Common.{◌≡◌, ◌∙◌, ℕ, ◌+◌, ◌<◌, Bool, Option, Some, None, List, [], ◌∷◌, ◌++◌, length, refl, sym, ap, subst, arith}
use Rattle.std.specs.Prelude.{option_and_then, slice_index, ◌&&◌, ◌||◌, nat_le}
use Rattle.dali_problem.specs.Clearing.{Clearing}
use Rattle.dali_problem.specs.Limits.{IsProblem}
use Rattle.dali_tree.specs.declared.fix.Fix.{Fix}
use Rattle.dali_tree.specs.declared.choice.Part.{Part}
use Rattle.dali_tree.specs.Fits.{first_member}
use Rattle.dali_cert_print.specs.declared.row.Row.{Row}
use Rattle.dali_cert_print.specs.declared.row.Row.TheVariants as rows
use Rattle.dali_cert_text.specs.declared.growth.Frame.{Frame}
use Rattle.dali_cert_text.specs.declared.growth.Growth.{Growth}
use Rattle.dali_cert_print.specs.Block.{is_small_bound}
use Rattle.dali_cert_text.specs.Rowed.{IsRow}
use Rattle.dali_cert_text.specs.Growth.{grow}
use Rattle.dali_cert_text.specs.Stating.{no_lines, state_row, least_first, part_row, edition_row, budget_row}
use Rattle.dali_cert_text.specs.Stages.{Setting, Start, Opened, Stated, Parted, Growing, stated_to, parted_to, grown_to, step, Unread, Goes, Takes}
use Rattle.dali_cert_text.proofs.Binds.{if_some, some_is}
use Rattle.dali_cert_text.proofs.Going.{IsOpen, goes_row}

-- What each stage's row leads to.

pub no_problem : IsProblem no_lines
no_problem = record {
  lines = omega arith;
  balances = λ k d below. absurd (omega (arith, below));
  ordered = λ k below. absurd (omega (arith, below));
  items = omega arith;
  ids = λ i j d before within. absurd (omega (arith, within));
  each = λ k d below. absurd (omega (arith, below));
  total = omega arith;
}

pub start_open : IsOpen Start
start_open = record { still = λ e parts same. cc }

pub opened_open : (wide : Bool) → IsOpen (Opened wide)
opened_open wide = record { still = λ e parts same. cc }

pub stated_open : (wide : Bool) (b : ℕ) (p : Clearing) → IsOpen (Stated wide b p)
stated_open wide b p = record { still = λ e parts same. cc }

pub parted_open : (s : Setting) (ps : List Part) → IsOpen (Parted s ps)
parted_open s ps = record { still = λ e parts same. cc }

pub growing_open : (s : Setting) (ps : List Part) (bound : ℕ) (members : List ℕ) (above : List Frame) (fixes : List Fix) → IsOpen (Growing s ps bound members above fixes)
growing_open s ps bound members above fixes = record { still = λ e parts same. cc }

pub edition_leads : (row : Row) (wide : Bool) → Some wide ≡ edition_row row → step Start row ≡ Some (Opened wide)
unfolding step
edition_leads row wide told = ap (option_and_then (λ (w : Bool). Some (Opened w))) (sym told)

pub edition_none : (row : Row) → None ≡ edition_row row → step Start row ≡ None
unfolding step
edition_none row told = ap (option_and_then (λ (w : Bool). Some (Opened w))) (sym told)

pub budget_leads : (wide : Bool) (row : Row) (b : ℕ) → Some b ≡ budget_row row → step (Opened wide) row ≡ Some (Stated wide b no_lines)
unfolding step
budget_leads wide row b told = ap (option_and_then (λ (n : ℕ). Some (Stated wide n no_lines))) (sym told)

pub budget_none : (wide : Bool) (row : Row) → None ≡ budget_row row → step (Opened wide) row ≡ None
unfolding step
budget_none wide row told = ap (option_and_then (λ (n : ℕ). Some (Stated wide n no_lines))) (sym told)

pub state_leads : (wide : Bool) (b : ℕ) (p q : Clearing) (set : Option (List ℕ)) (row : Row) → state_row wide p row ≡ Some (q, set) → step (Stated wide b p) row ≡ Some (stated_to wide b (q, set))
unfolding step
state_leads wide b p q set row told = ap (option_and_then (λ (x : Clearing × Option (List ℕ)). Some (stated_to wide b x))) told

pub state_none : (wide : Bool) (b : ℕ) (p : Clearing) (row : Row) → state_row wide p row ≡ None → step (Stated wide b p) row ≡ None
unfolding step
state_none wide b p row told = ap (option_and_then (λ (x : Clearing × Option (List ℕ)). Some (stated_to wide b x))) told

pub part_leads : (s : Setting) (parts : List Part) (wide : Bool) (least : ℕ) (row : Row) (x : Option (ℕ × List ℕ)) → s.wide ≡ wide → least ≡ least_first 0 parts →
    Some x ≡ part_row wide least row → step (Parted s parts) row ≡ Some (parted_to s parts x)
unfolding step
part_leads s parts wide least row x w l told =
    ap (option_and_then (λ (y : Option (ℕ × List ℕ)). Some (parted_to s parts y)))
    (ap (λ (v : Bool). part_row v (least_first 0 parts) row) w ∙ ap (λ (n : ℕ). part_row wide n row) (sym l) ∙ sym told)

pub part_none : (s : Setting) (parts : List Part) (wide : Bool) (least : ℕ) (row : Row) → s.wide ≡ wide → least ≡ least_first 0 parts →
    None ≡ part_row wide least row → step (Parted s parts) row ≡ None
unfolding step
part_none s parts wide least row w l told =
    ap (option_and_then (λ (y : Option (ℕ × List ℕ)). Some (parted_to s parts y)))
    (ap (λ (v : Bool). part_row v (least_first 0 parts) row) w ∙ ap (λ (n : ℕ). part_row wide n row) (sym l) ∙ sym told)

pub grow_leads : (s : Setting) (parts : List Part) (bound : ℕ) (members : List ℕ) (above : List Frame) (fixes : List Fix) (row : Row) (g : Growth) →
    grow above fixes row ≡ Some g → step (Growing s parts bound members above fixes) row ≡ Some (grown_to s parts bound members g)
unfolding step
grow_leads s parts bound members above fixes row g told = ap (option_and_then (λ (h : Growth). Some (grown_to s parts bound members h))) told

pub grow_none : (s : Setting) (parts : List Part) (bound : ℕ) (members : List ℕ) (above : List Frame) (fixes : List Fix) (row : Row) →
    grow above fixes row ≡ None → step (Growing s parts bound members above fixes) row ≡ None
unfolding step
grow_none s parts bound members above fixes row told = ap (option_and_then (λ (h : Growth). Some (grown_to s parts bound members h))) told

-- the first member of a part that comes
pub part_first : (wide : Bool) (least items lines bound : ℕ) (members : List ℕ) (row : Row) → Some (Some (bound, members)) ≡ part_row wide least row →
    IsRow items lines row → slice_index members 0 < items
unfolding part_row
part_first wide least items lines bound members (rows.Part most places) told is =
    let tests = (wide || is_small_bound most) && nat_le least (slice_index places 0) in
    let t = if_some tests (Some (Some (most, places))) (Some (bound, members)) (sym told) in
    let one : Some (most, places) ≡ Some (bound, members) = some_is (Some (most, places)) (Some (bound, members)) t.1 in
    let pair : (most, places) ≡ (bound, members) = some_is (most, places) (bound, members) one in
    subst (λ (ps : List ℕ). slice_index ps 0 < items) (ap (λ (x : ℕ × List ℕ). x.1) pair) (is.2.in_range 0 0 is.1)
part_first wide least items lines bound members rows.Last told is =
    let one : None ≡ Some (bound, members) = some_is None (Some (bound, members)) (sym told) in absurd cc
part_first wide least items lines bound members _ told is = absurd cc

pub least_push : (low : ℕ) (done : List Part) (part : Part) → least_first low (done ++ part ∷ []) ≡ first_member part + 1
least_push low [] part = refl
least_push low (p ∷ done) part = least_push (first_member p + 1) done part

-- the row of a part opens its tree
pub part_goes : (s : Setting) (parts : List Part) (wide : Bool) (least bound : ℕ) (members : List ℕ) (a b c : Unread) (row : Row) (items lines : ℕ) (o : Option (ℕ × List ℕ)) →
    s.wide ≡ wide → least ≡ least_first 0 parts → items ≡ length s.problem.items → lines ≡ length s.problem.lines → Goes (Parted s []) a (Parted s parts) b →
    Takes items lines row b c → Some o ≡ part_row wide least row → o ≡ Some (bound, members) → Goes (Parted s []) a (Growing s parts bound members [] []) c
part_goes s parts wide least bound members a b c row items lines o w l i j goes takes told is =
    goes_row (Parted s []) (Parted s parts) (Growing s parts bound members [] []) a b c row items lines i j goes takes
    (part_leads s parts wide least row (Some (bound, members)) w l (ap (λ (x : Option (ℕ × List ℕ)). Some x) (sym is) ∙ told))
