use Rattle.std.proofs.Common.{◌≡◌, ◌∙◌, ℕ, ◌+◌, ◌*◌, ◌^◌, ◌<◌, ◌≤◌, Bool, true, false, cond, Option, Some, None, List, [], ◌∷◌, ◌++◌, length, map, refl, sym, ap, subst, arith, append_assoc, ◌&&◌, ◌||◌}
use Rattle.std.proofs.lemmas.Bool.Decides.{nat_tests}
use Rattle.std.proofs.lemmas.List.{append-nil, map-append, length-append}
use Rattle.std.proofs.lemmas.List.Concat.{flat_map-append}
use Rattle.std.proofs.lemmas.List.Elements.{All-push, All-nil}
use Rattle.std.proofs.lemmas.List.Folds.{list_all-append}
use Rattle.std.specs.Prelude.{IsTrue, option_and_then, slice_index, nat_le, nat_lt}
use Rattle.std.specs.List.{All, list_all, flat_map}
use Rattle.dali_base.specs.Spelling.{is_name}
use Rattle.dali_base.proofs.Spelled.{and_parts, both}
use Rattle.dali_problem.specs.declared.row.LineRow.{LineRow}
use Rattle.dali_problem.specs.Clearing.{Item, Clearing}
use Rattle.dali_tree.specs.declared.fix.Fix.{Fix}
use Rattle.dali_tree.specs.declared.tree.Tree.{Tree}
use Rattle.dali_tree.specs.declared.tree.End.TheOpen.{End-F}
use Rattle.dali_tree.specs.declared.choice.Part.{Part}
use Rattle.dali_tree.specs.Fits.{AreRising, PartFits, first_member, fix_fits}
use Rattle.dali_cert_print.specs.declared.row.Row.{Row}
use Rattle.dali_cert_print.specs.declared.row.Row.TheVariants as rows
use Rattle.dali_cert_text.specs.declared.growth.Frame.{Frame}
use Rattle.dali_cert_text.specs.declared.growth.Frame.TheVariants as frames
use Rattle.dali_cert_text.specs.declared.growth.Growth.{Growth}
use Rattle.dali_cert_text.specs.declared.growth.Growth.TheVariants.{Open, Grown}
use Rattle.dali_cert_print.specs.Rows.{row_line}
use Rattle.dali_cert_print.specs.Block.{is_small_item, is_small_bound, part_rows, item_row}
use Rattle.dali_cert_text.specs.Rowed.{IsRow}
use Rattle.dali_cert_text.specs.Growth.{tree_of, grown, grow}
use Rattle.dali_cert_text.specs.Reading.{row_of}
use Rattle.dali_cert_text.specs.Stating.{no_lines, may_line, may_item, with_line, with_item, state_row, least_first, part_row, edition_row, budget_row}
use Rattle.dali_cert_text.specs.Stages.{Setting, Stage, Start, Opened, Stated, Parted, Growing, Whole, problem_of, stated_to, parted_to, grown_to, step, next, run}
use Rattle.dali_cert_text.proofs.Binds.{bind_some, if_some, some_is}
use Rattle.dali_cert_text.proofs.MayLaws.{line_may, item_may}
use Rattle.dali_cert_text.proofs.RisingLaws.{Rises}
use Rattle.dali_cert_text.proofs.Rowing.{frames_rows, open_rows, growth_rows, rows_of_tree, grown_rows}
use Rattle.dali_cert_text.proofs.Fitting.{FixesFit, no_fixes, TreeFits, FramesFit, few_frames, GrowthFits, bound_fits, short_fits, grown_fits, told_lt}
use Rattle.dali_cert_text.proofs.TextLaws.{row_is}

-- What was read so far stands for its rows, and keeps the limits of a block.

abbrev pub head_rows : Setting → List Row
head_rows s = rows.Block s.wide ∷ rows.Budget s.budget ∷ (map rows.Line s.problem.lines ++ map item_row s.problem.items ++ rows.Set s.places ∷ [])

abbrev pub so_far : Stage → List Row
so_far Start = []
so_far (Opened wide) = rows.Block wide ∷ []
so_far (Stated wide b p) = rows.Block wide ∷ rows.Budget b ∷ (map rows.Line p.lines ++ map item_row p.items)
so_far (Parted s parts) = head_rows s ++ flat_map part_rows parts
so_far (Growing s parts bound members above fixes) = head_rows s ++ (flat_map part_rows parts ++ rows.Part bound members ∷ open_rows above fixes)
so_far (Whole s parts) = head_rows s ++ (flat_map part_rows parts ++ rows.Last ∷ [])

pub record HeadKept (wide : Bool) (b : ℕ) (p : Clearing) : Type 0 where
  pub budget : b ≤ 4096
  pub names : All (λ line. IsTrue (is_name line.account) × IsTrue (is_name line.asset)) p.lines
  pub ids : All (λ item. IsTrue (is_name item.id)) p.items
  pub small : wide ≡ false → list_all is_small_item p.items ≡ true

pub record SettingKept (s : Setting) : Type 0 where
  pub head : HeadKept s.wide s.budget s.problem
  pub places : AreRising (length s.problem.items) s.places

pub record PartsKept (s : Setting) (parts : List Part) : Type 0 where
  pub each : All (PartFits (length s.problem.items) (length s.problem.lines)) parts
  pub rises : Rises first_member 0 parts
  pub small : s.wide ≡ false → list_all (λ part. is_small_bound part.bound) parts ≡ true

pub record PartKept (s : Setting) (parts : List Part) (bound : ℕ) (members : List ℕ) : Type 0 where
  pub most : bound ≤ 16384 * 10 ^ 15
  pub some : 0 < length members
  pub rising : AreRising (length s.problem.items) members
  pub least : least_first 0 parts ≤ slice_index members 0
  pub small : s.wide ≡ false → is_small_bound bound ≡ true

abbrev pub Kept : Stage → Type 0
Kept Start = Unit {0}
Kept (Opened wide) = Unit {0}
Kept (Stated wide b p) = HeadKept wide b p
Kept (Parted s parts) = SettingKept s × PartsKept s parts
Kept (Growing s parts bound members above fixes) =
    SettingKept s × PartsKept s parts × PartKept s parts bound members × FramesFit (length s.problem.items) (length s.problem.lines) above × FixesFit (length s.problem.items) (length s.problem.lines) fixes
Kept (Whole s parts) = SettingKept s × PartsKept s parts

-- where a row leads
abbrev Leads : Stage → Row → Stage → Type 0
Leads s row t = Kept t × (so_far t ≡ so_far s ++ row ∷ [])

lead_as : (s t u : Stage) (row : Row) → u ≡ t → Leads s row u → Leads s row t
lead_as s t u row e leads = subst (Leads s row) e leads

-- ---- the problem

line_rows : (lines : List LineRow) (items : List Item) (line : LineRow) → items ≡ [] →
    map rows.Line (lines ++ line ∷ []) ++ map item_row items ≡ (map rows.Line lines ++ map item_row items) ++ rows.Line line ∷ []
line_rows lines items line none =
    ap (λ (is : List Item). map rows.Line (lines ++ line ∷ []) ++ map item_row is) none
    ∙ append-nil (map rows.Line (lines ++ line ∷ [])) ∙ map-append rows.Line lines (line ∷ [])
    ∙ ap (λ (rs : List Row). rs ++ rows.Line line ∷ []) (sym (append-nil (map rows.Line lines)) ∙ ap (λ (is : List Item). map rows.Line lines ++ map item_row is) (sym none))

item_rows : (lines : List LineRow) (items : List Item) (item : Item) →
    map rows.Line lines ++ map item_row (items ++ item ∷ []) ≡ (map rows.Line lines ++ map item_row items) ++ item_row item ∷ []
item_rows lines items item =
    ap (λ (rs : List Row). map rows.Line lines ++ rs) (map-append item_row items (item ∷ [])) ∙ sym (append_assoc (map rows.Line lines) (map item_row items) (item_row item ∷ []))

and_true : (a b : Bool) → a ≡ true → b ≡ true → (a && b) ≡ true
and_true a b p q = both a b p q

stated_leads : (wide : Bool) (b : ℕ) (p : Clearing) (t : Stage) (row : Row) → step (Stated wide b p) row ≡ Some t → HeadKept wide b p →
    IsRow (length p.items) (length p.lines) row → Leads (Stated wide b p) row t
unfolding step state_row
stated_leads wide b p t (rows.Line line) told kept is =
    let x = bind_some (λ (x : Clearing × Option (List ℕ)). Some (stated_to wide b x)) (cond (may_line p line) (Some (with_line p line, None)) None) t told in
    let test = if_some (may_line p line) (Some (with_line p line, None)) x.0 x.1 in
    let may = line_may p line test.0 in
    let led : Stated wide b (with_line p line) ≡ t = some_is (Stated wide b (with_line p line)) t (ap (λ (y : Clearing × Option (List ℕ)). Some (stated_to wide b y)) (some_is (with_line p line, None) x.0 test.1) ∙ x.2) in
    lead_as (Stated wide b p) t (Stated wide b (with_line p line)) (rows.Line line) led (
      record {
        budget = kept.budget;
        names = All-push (λ line. IsTrue (is_name line.account) × IsTrue (is_name line.asset)) p.lines line kept.names (is.0, is.1);
        ids = kept.ids;
        small = kept.small;
      },
      ap (λ (rs : List Row). rows.Block wide ∷ rows.Budget b ∷ rs) (line_rows p.lines p.items line may.no_items),
    )
stated_leads wide b p t (rows.Item id value effects) told kept is =
    let item : Item = record { id = id; value = value; effects = effects } in
    let after = with_item p id value effects in
    let x = bind_some (λ (x : Clearing × Option (List ℕ)). Some (stated_to wide b x)) (cond (may_item wide p id value effects) (Some (after, None)) None) t told in
    let test = if_some (may_item wide p id value effects) (Some (after, None)) x.0 x.1 in
    let may = item_may wide p id value effects test.0 in
    let led : Stated wide b after ≡ t = some_is (Stated wide b after) t (ap (λ (y : Clearing × Option (List ℕ)). Some (stated_to wide b y)) (some_is (after, None) x.0 test.1) ∙ x.2) in
    lead_as (Stated wide b p) t (Stated wide b after) (rows.Item id value effects) led (
      record {
        budget = kept.budget;
        names = kept.names;
        ids = All-push (λ (i : Item). IsTrue (is_name i.id)) p.items item kept.ids is.0;
        small = λ narrow. list_all-append is_small_item p.items (item ∷ [])
            ∙ and_true (list_all is_small_item p.items) (is_small_item item && true) (kept.small narrow) (and_true (is_small_item item) true (may.small narrow) refl);
      },
      ap (λ (rs : List Row). rows.Block wide ∷ rows.Budget b ∷ rs) (item_rows p.lines p.items item),
    )
stated_leads wide b p t (rows.Set places) told kept is =
    let s : Setting = record { wide = wide; budget = b; problem = p; places = places } in
    lead_as (Stated wide b p) t (Parted s []) (rows.Set places) (some_is (Parted s []) t told)
    ((record { head = kept; places = is }, record { each = All-nil (PartFits (length p.items) (length p.lines)); rises = tt; small = λ _. refl }), append-nil (head_rows s))
stated_leads wide b p t _ told kept is = absurd cc

-- ---- parts

narrow_is : (wide test : Bool) → (wide || test) ≡ true → wide ≡ false → test ≡ true
narrow_is true test told narrow = absurd cc
narrow_is false test told narrow = told

parted_leads : (s : Setting) (parts : List Part) (t : Stage) (row : Row) → step (Parted s parts) row ≡ Some t → SettingKept s → PartsKept s parts →
    IsRow (length s.problem.items) (length s.problem.lines) row → Leads (Parted s parts) row t
unfolding step part_row
parted_leads s parts t (rows.Part bound members) told kept ps is =
    let tests = (s.wide || is_small_bound bound) && nat_le (least_first 0 parts) (slice_index members 0) in
    let x = bind_some (λ (x : Option (ℕ × List ℕ)). Some (parted_to s parts x)) (cond tests (Some (Some (bound, members))) None) t told in
    let test = if_some tests (Some (Some (bound, members))) x.0 x.1 in
    let both' = and_parts (s.wide || is_small_bound bound) (nat_le (least_first 0 parts) (slice_index members 0)) test.0 in
    let least : least_first 0 parts ≤ slice_index members 0 = grind (arith, nat_tests, both'.1) in
    let after : Stage = Growing s parts bound members [] [] in
    let led : after ≡ t = some_is after t (ap (λ (y : Option (ℕ × List ℕ)). Some (parted_to s parts y)) (some_is (Some (bound, members)) x.0 test.1) ∙ x.2) in
    lead_as (Parted s parts) t after (rows.Part bound members) led (
      (
        kept,
        ps,
        record { most = is.0; some = is.1; rising = is.2; least = least; small = narrow_is s.wide (is_small_bound bound) both'.0 },
        tt,
        no_fixes (length s.problem.items) (length s.problem.lines),
      ),
      sym (append_assoc (head_rows s) (flat_map part_rows parts) (rows.Part bound members ∷ [])),
    )
parted_leads s parts t rows.Last told kept ps is =
    lead_as (Parted s parts) t (Whole s parts) rows.Last (some_is (Whole s parts) t told) ((kept, ps), sym (append_assoc (head_rows s) (flat_map part_rows parts) (rows.Last ∷ [])))
parted_leads s parts t _ told kept ps is = absurd cc

-- ---- trees

row_behind : (h f xs : List Row) (part row : Row) → h ++ (f ++ part ∷ (xs ++ row ∷ [])) ≡ (h ++ (f ++ part ∷ xs)) ++ row ∷ []
row_behind h f xs part row = sym (append_assoc h (f ++ part ∷ xs) (row ∷ []) ∙ ap (λ (rs : List Row). h ++ rs) (append_assoc f (part ∷ xs) (row ∷ [])))

rises_push : (low : ℕ) (parts : List Part) (part : Part) → Rises first_member low parts → least_first low parts ≤ first_member part → Rises first_member low (parts ++ part ∷ [])
rises_push low [] part rises least = (least, tt)
rises_push low (p ∷ parts) part rises least = (rises.0, rises_push (first_member p + 1) parts part rises.1 least)

-- a tree that is whole makes the part
pub part_done : (s : Setting) (parts : List Part) (bound : ℕ) (members : List ℕ) (tree : Tree) → PartsKept s parts → PartKept s parts bound members →
    TreeFits (length s.problem.items) (length s.problem.lines) 0 tree → PartsKept s (parts ++ record { members = members; bound = bound; tree = tree } ∷ [])
part_done s parts bound members tree ps part fits =
    let done : Part = record { members = members; bound = bound; tree = tree } in
    record {
      each = All-push (PartFits (length s.problem.items) (length s.problem.lines)) parts done ps.each
          (record { some = part.some; members = part.rising; bound = part.most; tree = fits.fits; depth = omega (arith, fits.depth) });
      rises = rises_push 0 parts done ps.rises part.least;
      small = λ narrow. list_all-append (λ (p : Part). is_small_bound p.bound) parts (done ∷ [])
          ∙ and_true (list_all (λ (p : Part). is_small_bound p.bound) parts) (is_small_bound bound && true) (ps.small narrow) (and_true (is_small_bound bound) true (part.small narrow) refl);
    }

module _ (s : Setting) (parts : List Part) (bound : ℕ) (members : List ℕ) (kept : SettingKept s) (ps : PartsKept s parts) (part : PartKept s parts bound members) where
  growth_leads : (above : List Frame) (fixes : List Fix) (row : Row) (g : Growth) (t : Stage) → GrowthFits (length s.problem.items) (length s.problem.lines) g →
      growth_rows g ≡ open_rows above fixes ++ row ∷ [] → Some (grown_to s parts bound members g) ≡ Some t → Leads (Growing s parts bound members above fixes) row t
  growth_leads above fixes row (Open over taken) t fits same told =
      lead_as (Growing s parts bound members above fixes) t (Growing s parts bound members over taken) row (some_is (Growing s parts bound members over taken) t told) (
        (kept, ps, part, fits.0, fits.1),
        ap (λ (rs : List Row). head_rows s ++ (flat_map part_rows parts ++ rows.Part bound members ∷ rs)) same
            ∙ row_behind (head_rows s) (flat_map part_rows parts) (open_rows above fixes) (rows.Part bound members) row,
      )
  growth_leads above fixes row (Grown tree) t fits same told =
      let done : Part = record { members = members; bound = bound; tree = tree } in
      lead_as (Growing s parts bound members above fixes) t (Parted s (parts ++ done ∷ [])) row (some_is (Parted s (parts ++ done ∷ [])) t told) (
        (kept, part_done s parts bound members tree ps part fits),
        ap (λ (rs : List Row). head_rows s ++ rs) (flat_map-append part_rows parts (done ∷ []) ∙ ap (λ (rs : List Row). flat_map part_rows parts ++ rs) (append-nil (part_rows done)))
            ∙ ap (λ (rs : List Row). head_rows s ++ (flat_map part_rows parts ++ rows.Part bound members ∷ rs)) same
            ∙ row_behind (head_rows s) (flat_map part_rows parts) (open_rows above fixes) (rows.Part bound members) row,
      )

  growing_leads : (above : List Frame) (fixes : List Fix) (t : Stage) (row : Row) → step (Growing s parts bound members above fixes) row ≡ Some t →
      FramesFit (length s.problem.items) (length s.problem.lines) above → FixesFit (length s.problem.items) (length s.problem.lines) fixes →
      IsRow (length s.problem.items) (length s.problem.lines) row → Leads (Growing s parts bound members above fixes) row t
  unfolding step grow
  growing_leads above fixes t (rows.Fix fix) told frames' fits is =
      let x = bind_some (λ (g : Growth). Some (grown_to s parts bound members g)) (cond (nat_lt (length fixes) 1024) (Some (Open above (fixes ++ fix ∷ []))) None) t told in
      let test = if_some (nat_lt (length fixes) 1024) (Some (Open above (fixes ++ fix ∷ []))) x.0 x.1 in
      let few : length fixes < 1024 = told_lt (length fixes) 1024 test.0 in
      growth_leads above fixes (rows.Fix fix) (Open above (fixes ++ fix ∷ [])) t (
        frames',
        record {
          few = omega (arith, few, length-append fixes (fix ∷ []));
          fit = list_all-append (fix_fits (length s.problem.items) (length s.problem.lines)) fixes (fix ∷ [])
              ∙ and_true (list_all (fix_fits (length s.problem.items) (length s.problem.lines)) fixes) (fix_fits (length s.problem.items) (length s.problem.lines) fix && true) fits.fit
              (and_true (fix_fits (length s.problem.items) (length s.problem.lines) fix) true is refl);
        },
      )
      (ap (λ (rs : List Row). frames_rows above ++ rs) (map-append rows.Fix fixes (fix ∷ [])) ∙ sym (append_assoc (frames_rows above) (map rows.Fix fixes) (rows.Fix fix ∷ [])))
      (ap (λ (g : Growth). Some (grown_to s parts bound members g)) (some_is (Open above (fixes ++ fix ∷ [])) x.0 test.1) ∙ x.2)
  growing_leads above fixes t (rows.Bound lam) told frames' fits is =
      growth_leads above fixes (rows.Bound lam) (grown above (tree_of fixes (End-F.Bound lam))) t
      (grown_fits (length s.problem.items) (length s.problem.lines) above (tree_of fixes (End-F.Bound lam)) frames'
      (bound_fits (length s.problem.items) (length s.problem.lines) (length above) fixes lam (few_frames (length s.problem.items) (length s.problem.lines) above frames') fits is))
      (grown_rows above (tree_of fixes (End-F.Bound lam)) ∙ ap (λ (rs : List Row). frames_rows above ++ rs) (rows_of_tree fixes (End-F.Bound lam))
      ∙ sym (append_assoc (frames_rows above) (map rows.Fix fixes) (rows.Bound lam ∷ [])))
      told
  growing_leads above fixes t (rows.Short line) told frames' fits is =
      growth_leads above fixes (rows.Short line) (grown above (tree_of fixes (End-F.Short line))) t
      (grown_fits (length s.problem.items) (length s.problem.lines) above (tree_of fixes (End-F.Short line)) frames'
      (short_fits (length s.problem.items) (length s.problem.lines) (length above) fixes line (few_frames (length s.problem.items) (length s.problem.lines) above frames') fits is))
      (grown_rows above (tree_of fixes (End-F.Short line)) ∙ ap (λ (rs : List Row). frames_rows above ++ rs) (rows_of_tree fixes (End-F.Short line))
      ∙ sym (append_assoc (frames_rows above) (map rows.Fix fixes) (rows.Short line ∷ [])))
      told
  growing_leads above fixes t (rows.Branch place lam) told frames' fits is =
      let over : List Frame = frames.Inside fixes place lam ∷ above in
      let x = bind_some (λ (g : Growth). Some (grown_to s parts bound members g)) (cond (nat_lt (length above) 1024) (Some (Open over [])) None) t told in
      let test = if_some (nat_lt (length above) 1024) (Some (Open over [])) x.0 x.1 in
      let few : length above < 1024 = told_lt (length above) 1024 test.0 in
      growth_leads above fixes (rows.Branch place lam) (Open over []) t
      (((fits, is.0, is.1), frames', omega (arith, few)), no_fixes (length s.problem.items) (length s.problem.lines))
      (append-nil (frames_rows above ++ (map rows.Fix fixes ++ rows.Branch place lam ∷ [])) ∙ sym (append_assoc (frames_rows above) (map rows.Fix fixes) (rows.Branch place lam ∷ [])))
      (ap (λ (g : Growth). Some (grown_to s parts bound members g)) (some_is (Open over []) x.0 test.1) ∙ x.2)
  growing_leads above fixes t _ told frames' fits is = absurd cc

-- ---- any row

start_leads : (t : Stage) (row : Row) → step Start row ≡ Some t → Leads Start row t
unfolding step edition_row
start_leads t (rows.Block wide) told = lead_as Start t (Opened wide) (rows.Block wide) (some_is (Opened wide) t told) (tt, refl)
start_leads t _ told = absurd cc

opened_leads : (wide : Bool) (t : Stage) (row : Row) → step (Opened wide) row ≡ Some t → IsRow 0 0 row → Leads (Opened wide) row t
unfolding step budget_row
opened_leads wide t (rows.Budget b) told is =
    lead_as (Opened wide) t (Stated wide b no_lines) (rows.Budget b) (some_is (Stated wide b no_lines) t told) (
      record {
        budget = is;
        names = All-nil (λ line. IsTrue (is_name line.account) × IsTrue (is_name line.asset));
        ids = All-nil (λ (i : Item). IsTrue (is_name i.id));
        small = λ _. refl;
      },
      refl,
    )
opened_leads wide t _ told is = absurd cc

whole_ends : (s : Setting) (parts : List Part) (t : Stage) (row : Row) → step (Whole s parts) row ≡ Some t → ⊥
unfolding step
whole_ends s parts t row told = cc

pub step_leads : (s t : Stage) (row : Row) → step s row ≡ Some t → Kept s → IsRow (length (problem_of s).items) (length (problem_of s).lines) row → Leads s row t
step_leads Start t row told kept is = start_leads t row told
step_leads (Opened wide) t row told kept is = opened_leads wide t row told is
step_leads (Stated wide b p) t row told kept is = stated_leads wide b p t row told kept is
step_leads (Parted s parts) t row told kept is = parted_leads s parts t row told kept.0 kept.1 is
step_leads (Growing s parts bound members above fixes) t row told kept is = growing_leads s parts bound members kept.0 kept.1 kept.2 above fixes t row told kept.3 kept.4 is
step_leads (Whole s parts) t row told kept is = absurd (whole_ends s parts t row told)

-- lines that lead from a stage are those of the rows that came since
pub run_keeps : (lines : List (List ℕ)) (s t : Stage) → run s lines ≡ Some t → Kept s → Kept t × (map row_line (so_far t) ≡ map row_line (so_far s) ++ lines)
unfolding next
run_keeps [] s t told kept = subst (λ (u : Stage). Kept u × (map row_line (so_far u) ≡ map row_line (so_far s) ++ [])) (some_is s t told) (kept, sym (append-nil (map row_line (so_far s))))
run_keeps (line ∷ lines) s t told kept =
    let a = bind_some (λ (u : Stage). run u lines) (option_and_then (step s) (row_of (length (problem_of s).items) (length (problem_of s).lines) line)) t told in
    let r = bind_some (step s) (row_of (length (problem_of s).items) (length (problem_of s).lines) line) a.0 a.1 in
    let spelt = row_is (length (problem_of s).items) (length (problem_of s).lines) line r.0 r.1 in
    let one = step_leads s a.0 r.0 r.2 kept spelt.1 in
    let rest = run_keeps lines a.0 t a.2 one.0 in (
      rest.0,
      rest.1 ∙ ap (λ (ls : List (List ℕ)). ls ++ lines) (ap (map row_line) one.1 ∙ map-append row_line (so_far s) (r.0 ∷ []))
          ∙ append_assoc (map row_line (so_far s)) (row_line r.0 ∷ []) lines ∙ ap (λ (l : List ℕ). map row_line (so_far s) ++ l ∷ lines) (sym spelt.0),
    )
