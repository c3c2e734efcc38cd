use Rattle.std.proofs.Common.{◌≡◌, ◌∙◌, ◌⊎◌, inl, inr, ℕ, ◌+◌, ◌<◌, Bool, true, false, not, Option, Some, None, Result, Ok, Err, List, [], ◌∷◌, ◌++◌, length, map, refl, sym, ap, subst, arith, append_assoc, ◌&&◌}
use Rattle.std.proofs.lemmas.List.{append-nil, length-map}
use Rattle.std.proofs.lemmas.List.Concat.{flat_map-append}
use Rattle.std.proofs.lemmas.List.Folds.{flat_map-map}
use Rattle.std.specs.Prelude.{option_and_then, IfOk}
use Rattle.dali_base.proofs.Spelled.{and_parts}
use Rattle.dali_cert_text.specs.Reading.{row_of}
use Rattle.dali_cert_text.specs.declared.block.BlockNo.{BlockNo}
use Rattle.dali_cert_text.specs.declared.block.BlockNo.TheVariants.{Form}
use Rattle.std.specs.List.{AllByRecursion, list_all, flat_map}
use Rattle.dali_problem.specs.Clearing.{Clearing}
use Rattle.dali_problem.specs.Limits.{IsProblem}
use Rattle.dali_tree.specs.declared.tree.Tree.{Tree}
use Rattle.dali_tree.specs.declared.tree.End.TheOpen.{End-F}
use Rattle.dali_tree.specs.declared.choice.Part.{Part}
use Rattle.dali_tree.specs.declared.choice.Choice.{Choice}
use Rattle.dali_tree.specs.Fits.{AreRising, first_member}
use Rattle.dali_cert_text.specs.declared.block.Block.{Block}
use Rattle.dali_cert_print.specs.declared.row.Row.{Row}
use Rattle.dali_cert_print.specs.declared.row.Row.TheVariants as rows
use Rattle.dali_cert_print.specs.Rows.{row_line, row_text, rows_text}
use Rattle.dali_cert_print.specs.Block.{is_small_item, is_small_bound, is_wide, tree_rows, part_rows, item_row}
use Rattle.dali_cert_text.specs.Form.{Spells, IsDraft, draft_rows, IsLine, is_line, lines_text, BeginsDraft, IsFormLine}
use Rattle.dali_cert_text.specs.Growth.{tree_of}
use Rattle.dali_cert_text.specs.Stating.{no_lines}
use Rattle.dali_cert_text.specs.Stages.{Setting, Stage, Start, Opened, Stated, Parted, Growing, Whole, problem_of, step, next, run, setting_of, whole, Unread, Goes, Stops}
use Rattle.dali_cert_text.proofs.Binds.{some_is}
use Rattle.dali_cert_text.proofs.RisingLaws.{pairs_of}
use Rattle.dali_cert_text.proofs.TextLaws.{row_is_line}
use Rattle.dali_cert_text.proofs.Going.{cut_same, led_on}
use Rattle.dali_cert_text.proofs.Rowing.{frames_rows, open_rows, rows_of_tree}
use Rattle.dali_cert_text.proofs.Fitting.{few_frames, bound_fits, closed, closing, closed_fits, closed_rows}
use Rattle.dali_cert_text.proofs.Keeping.{head_rows, so_far, HeadKept, SettingKept, PartsKept, Kept, part_done, run_keeps}
use Rattle.dali_cert_text.proofs.Following.{Follows, follows_run}
use Rattle.dali_cert_text.proofs.Leading.{draft_follows}

-- What was read so far is the front of a draft; so the line that doesn't lead on is the line of FORM.

record Completes (t : Stage) : Type 0 where
  wide : Bool
  block : Block
  draft : IsDraft wide block
  more : List Row
  rows_are : draft_rows wide block ≡ so_far t ++ more

edition_by : (a b wide : Bool) → (wide ≡ false → a ≡ true) → (wide ≡ false → b ≡ true) → not (a && b) ≡ true → wide ≡ true
edition_by a b true one two told = refl
edition_by a b false one two told = let p : a ≡ true = one refl in let q : b ≡ true = two refl in
    absurd (both_true a b p q told)
  where
    both_true : (x y : Bool) → x ≡ true → y ≡ true → not (x && y) ≡ true → ⊥
    both_true true true e f t = cc
    both_true true false e f t = cc
    both_true false y e f t = cc

abbrev nothing : Choice
nothing = record { places = []; parts = [] }

abbrev block_with : Clearing → ℕ → List ℕ → List Part → Block
block_with p b places parts = record { problem = p; budget = b; choice = record { places = places; parts = parts } }

no_rising : (n : ℕ) → AreRising n []
no_rising n = record { rising = λ i j d before within. absurd (omega (arith, within)); in_range = λ k d below. absurd (omega (arith, below)) }

head_draft : (wide : Bool) (b : ℕ) (p : Clearing) → HeadKept wide b p → IsProblem p → IsDraft wide (block_with p b [] [])
head_draft wide b p kept limits = record {
  block = record {
    problem = limits;
    names = kept.names;
    ids = kept.ids;
    budget = kept.budget;
    choice = record { set = no_rising (length p.items); parts = λ k d below. absurd (omega (arith, below)); order = λ i j d before within. absurd (omega (arith, within)) };
  };
  edition = edition_by (list_all is_small_item p.items) true wide kept.small (λ _. refl);
}

-- a set and parts that are kept make a draft
pub parts_draft : (s : Setting) (parts : List Part) → SettingKept s → PartsKept s parts → IsProblem s.problem → IsDraft s.wide (block_with s.problem s.budget s.places parts)
parts_draft s parts kept ps limits = record {
  block = record {
    problem = limits;
    names = kept.head.names;
    ids = kept.head.ids;
    budget = kept.head.budget;
    choice = record { set = kept.places; parts = ps.each; order = pairs_of first_member 0 parts ps.rises };
  };
  edition = edition_by (list_all is_small_item s.problem.items) (list_all (λ (part : Part). is_small_bound part.bound) parts) s.wide kept.head.small ps.small;
}

no_head : (wide : Bool) → HeadKept wide 0 no_lines
no_head wide = record {
  budget = omega arith;
  names = λ k d below. absurd (omega (arith, below));
  ids = λ k d below. absurd (omega (arith, below));
  small = λ _. refl;
}

-- the rows of a draft begin with those of its setting
draft_head : (s : Setting) (parts : List Part) → draft_rows s.wide (block_with s.problem s.budget s.places parts) ≡ head_rows s ++ (flat_map part_rows parts ++ rows.Last ∷ [])
draft_head s parts =
    ap (λ (rs : List Row). rows.Block s.wide ∷ rows.Budget s.budget ∷ rs)
    (sym (append_assoc (map rows.Line s.problem.lines ++ map item_row s.problem.items) (rows.Set s.places ∷ []) (flat_map part_rows parts ++ rows.Last ∷ [])))

last_part : (parts : List Part) (part : Part) → flat_map part_rows (parts ++ part ∷ []) ≡ flat_map part_rows parts ++ part_rows part
last_part parts part = flat_map-append part_rows parts (part ∷ []) ∙ ap (λ (rs : List Row). flat_map part_rows parts ++ rs) (append-nil (part_rows part))

moved_last : (h f o c : List Row) (part bound final : Row) →
    h ++ ((f ++ part ∷ ((o ++ bound ∷ []) ++ c)) ++ final ∷ []) ≡ (h ++ (f ++ part ∷ o)) ++ bound ∷ (c ++ final ∷ [])
moved_last h f o c part bound final = simp append_assoc

completes : (t : Stage) → Kept t → IsProblem (problem_of t) → Completes t
completes Start kept limits = record {
  wide = false;
  block = block_with no_lines 0 [] [];
  draft = head_draft false 0 no_lines (no_head false) limits;
  more = draft_rows false (block_with no_lines 0 [] []);
  rows_are = refl;
}
completes (Opened wide) kept limits = record {
  wide = wide;
  block = block_with no_lines 0 [] [];
  draft = head_draft wide 0 no_lines (no_head wide) limits;
  more = rows.Budget 0 ∷ rows.Set [] ∷ rows.Last ∷ [];
  rows_are = refl;
}
completes (Stated wide b p) kept limits = record {
  wide = wide;
  block = block_with p b [] [];
  draft = head_draft wide b p kept limits;
  more = rows.Set [] ∷ rows.Last ∷ [];
  rows_are = refl;
}
completes (Parted s parts) kept limits = record {
  wide = s.wide;
  block = block_with s.problem s.budget s.places parts;
  draft = parts_draft s parts kept.0 kept.1 limits;
  more = rows.Last ∷ [];
  rows_are = draft_head s parts ∙ sym (append_assoc (head_rows s) (flat_map part_rows parts) (rows.Last ∷ []));
}
completes (Growing s parts bound members above fixes) kept limits =
    let items = length s.problem.items in
    let lines = length s.problem.lines in
    let here : Tree = tree_of fixes (End-F.Bound []) in
    let high = few_frames items lines above kept.3 in
    let tree : Tree = closed items lines above here in
    let fits = closed_fits items lines above here kept.3 (bound_fits items lines (length above) fixes [] high kept.4 refl) in
    let part : Part = record { members = members; bound = bound; tree = tree } in
    let tree_are : tree_rows tree ≡ (open_rows above fixes ++ rows.Bound [] ∷ []) ++ closing items lines above =
    closed_rows items lines above here
    ∙ ap (λ (rs : List Row). (frames_rows above ++ rs) ++ closing items lines above) (rows_of_tree fixes (End-F.Bound []))
    ∙ ap (λ (rs : List Row). rs ++ closing items lines above) (sym (append_assoc (frames_rows above) (map rows.Fix fixes) (rows.Bound [] ∷ []))) in
    record {
      wide = s.wide;
      block = block_with s.problem s.budget s.places (parts ++ part ∷ []);
      draft = parts_draft s (parts ++ part ∷ []) kept.0 (part_done s parts bound members tree kept.1 kept.2 fits) limits;
      more = rows.Bound [] ∷ (closing items lines above ++ rows.Last ∷ []);
      rows_are = draft_head s (parts ++ part ∷ [])
          ∙ ap (λ (rs : List Row). head_rows s ++ (rs ++ rows.Last ∷ [])) (last_part parts part ∙ ap (λ (rs : List Row). flat_map part_rows parts ++ rows.Part bound members ∷ rs) tree_are)
          ∙ moved_last (head_rows s) (flat_map part_rows parts) (open_rows above fixes) (closing items lines above) (rows.Part bound members) (rows.Bound []) rows.Last;
    }
completes (Whole s parts) kept limits = record {
  wide = s.wide;
  block = block_with s.problem s.budget s.places parts;
  draft = parts_draft s parts kept.0 kept.1 limits;
  more = [];
  rows_are = draft_head s parts ∙ sym (append-nil (head_rows s ++ (flat_map part_rows parts ++ rows.Last ∷ [])));
}

-- ---- texts and lines

pub text_of_lines : (rs : List Row) → lines_text (map row_line rs) ≡ rows_text rs
text_of_lines rs = flat_map-map (λ line. line ++ 10 ∷ []) row_line rs

line_moves : (line rest behind : List ℕ) → ((line ++ 10 ∷ []) ++ rest) ++ behind ≡ line ++ 10 ∷ (rest ++ behind)
line_moves line rest behind = simp append_assoc

no_text : (x rest : List ℕ) → x ++ 10 ∷ rest ≡ [] → ⊥
no_text [] rest e = cc
no_text (b ∷ x) rest e = cc

record Cut (xs ys : List (List ℕ)) (rest : List ℕ) : Type 0 where
  behind : List (List ℕ)
  parts : ys ≡ xs ++ behind
  text : rest ≡ lines_text behind

-- lines at the front of lines
cut : (xs ys : List (List ℕ)) (rest : List ℕ) → AllByRecursion IsLine xs → AllByRecursion IsLine ys → lines_text xs ++ rest ≡ lines_text ys → Cut xs ys rest
cut [] ys rest p q e = record { behind = ys; parts = refl; text = e }
cut (x ∷ xs) [] rest p q e = absurd (no_text x (lines_text xs ++ rest) (sym (line_moves x (lines_text xs) rest) ∙ e))
cut (x ∷ xs) (y ∷ ys) rest p q e =
    let same = cut_same x y (lines_text xs ++ rest) (lines_text ys) p.0 q.0 (sym (line_moves x (lines_text xs) rest) ∙ e ∙ append_assoc y (10 ∷ []) (lines_text ys)) in
    let more = cut xs ys rest p.1 q.1 same.1 in
    record { behind = more.behind; parts = ap (λ (l : List ℕ). l ∷ ys) (sym same.0) ∙ ap (λ (ls : List (List ℕ)). x ∷ ls) more.parts; text = more.text }

follows_lines : (rs : List Row) (s t : Stage) → Follows s rs t → AllByRecursion IsLine (map row_line rs)
follows_lines [] s t same = tt
follows_lines (row ∷ rs) s t follows =
    let comes = follows.1 in
    (row_is_line (length (problem_of s).items) (length (problem_of s).lines) (omega (arith, comes.items)) (omega (arith, comes.lines)) row comes.is, follows_lines rs follows.0 t follows.2)

module _ (wide : Bool) (b : Block) (draft : IsDraft wide b) where
  draft_led : run Start (map row_line (draft_rows wide b)) ≡ Some (whole wide b)
  draft_led = follows_run (draft_rows wide b) Start (whole wide b) (draft_follows wide b draft)

  draft_each : AllByRecursion IsLine (map row_line (draft_rows wide b))
  draft_each = follows_lines (draft_rows wide b) Start (whole wide b) (draft_follows wide b draft)

each_behind : (xs ys : List (List ℕ)) → AllByRecursion IsLine (xs ++ ys) → AllByRecursion IsLine ys
each_behind [] ys all = all
each_behind (x ∷ xs) ys all = each_behind xs ys all.1

begins_by : (lines : List (List ℕ)) (t : Stage) → run Start lines ≡ Some t → IsProblem (problem_of t) → BeginsDraft lines
begins_by lines t led limits =
    let kept = run_keeps lines Start t led tt in
    let c = completes t kept.0 limits in
    record {
      wide = c.wide;
      block = c.block;
      draft = c.draft;
      more = rows_text c.more;
      text = ap rows_text c.rows_are ∙ flat_map-append row_text (so_far t) c.more
          ∙ ap (λ (text : List ℕ). text ++ rows_text c.more) (sym (text_of_lines (so_far t)) ∙ ap lines_text kept.1);
    }

nowhere : (t : Stage) (line : List ℕ) (lines : List (List ℕ)) (u : Stage) → next t line ≡ None → run t (line ∷ lines) ≡ Some u → ⊥
nowhere t line lines u none led = let gone : run t (line ∷ lines) ≡ None = ap (option_and_then (λ (v : Stage). run v lines)) none in cc (gone, led)

each_one : (lines : List (List ℕ)) (line : List ℕ) → AllByRecursion IsLine lines → is_line line ≡ true → AllByRecursion IsLine (lines ++ line ∷ [])
each_one [] line all is = (is, tt)
each_one (l ∷ lines) line all is = (all.0, each_one lines line all.1 is)

module _ (bytes : List ℕ) (k : ℕ) (stops : Stops Start (record { text = bytes; taken = 0 }) k) where
  no_more : (line more : List ℕ) → IsLine line → stops.rest ≡ line ++ 10 ∷ more → BeginsDraft (stops.lines ++ line ∷ []) → ⊥
  no_more line more is text begins =
      let dl = map row_line (draft_rows begins.wide begins.block) in
      let c = cut (stops.lines ++ line ∷ []) dl begins.more (each_one stops.lines line stops.each is) (draft_each begins.wide begins.block begins.draft)
      (sym begins.text ∙ sym (text_of_lines (draft_rows begins.wide begins.block))) in
      let led : run Start (stops.lines ++ line ∷ c.behind) ≡ Some (whole begins.wide begins.block) =
      ap (run Start) (sym (c.parts ∙ append_assoc stops.lines (line ∷ []) c.behind)) ∙ draft_led begins.wide begins.block begins.draft in
      nowhere stops.stage line c.behind (whole begins.wide begins.block) (stops.stuck line more is text) (sym (led_on stops.lines (line ∷ c.behind) Start stops.stage stops.led) ∙ led)

  no_draft : (wide : Bool) (b : Block) → IsDraft wide b → bytes ≡ rows_text (draft_rows wide b) → ⊥
  no_draft wide b draft text =
      let dl = map row_line (draft_rows wide b) in
      let c = cut stops.lines dl stops.rest stops.each (draft_each wide b draft) (sym stops.text ∙ text ∙ sym (text_of_lines (draft_rows wide b))) in
      let led : run stops.stage c.behind ≡ Some (whole wide b) =
      sym (led_on stops.lines c.behind Start stops.stage stops.led) ∙ ap (run Start) (sym c.parts) ∙ draft_led wide b draft in
      behind c.behind led c.text (each_behind stops.lines c.behind (subst (AllByRecursion IsLine) c.parts (draft_each wide b draft)))
    where
      behind : (zs : List (List ℕ)) → run stops.stage zs ≡ Some (whole wide b) → stops.rest ≡ lines_text zs → AllByRecursion IsLine zs → ⊥
      behind [] led text' each = stops.unended (setting_of wide b) b.choice.parts (some_is stops.stage (whole wide b) led) text'
      behind (z ∷ zs) led text' each =
          nowhere stops.stage z zs (whole wide b) (stops.stuck z (lines_text zs) each.0 (text' ∙ append_assoc z (10 ∷ []) (lines_text zs))) led

  pub form_line : IsFormLine bytes k
  form_line = inr (
    record {
      lines = stops.lines;
      rest = stops.rest;
      text = stops.text;
      each = stops.each;
      number = omega (arith, stops.number);
      begins = begins_by stops.lines stops.stage stops.led stops.bounds;
      breaks = no_more;
    },
    no_draft,
  )

-- ---- the end

pub record IsRead (bytes : List ℕ) (wide : Bool) (b : Block) (taken : ℕ) : Type 0 where
  pub draft : IsDraft wide b
  pub text : bytes ≡ rows_text (draft_rows wide b)
  pub last : taken ≡ length (draft_rows wide b)

pub whole_read : (bytes : List ℕ) (wide : Bool) (b : Block) (u : Unread) → Goes Start (record { text = bytes; taken = 0 }) (whole wide b) u → IsProblem b.problem → u.text ≡ [] →
    IsRead bytes wide b u.taken
whole_read bytes wide b u goes limits end =
    let kept = run_keeps goes.lines Start (whole wide b) goes.led tt in
    let s = setting_of wide b in
    let same : draft_rows wide b ≡ so_far (whole wide b) = draft_head s b.choice.parts in
    let lines_are : map row_line (so_far (whole wide b)) ≡ goes.lines = kept.1 in
    let count : length goes.lines ≡ length (draft_rows wide b) = ap length (sym lines_are) ∙ length-map (so_far (whole wide b)) row_line ∙ ap length (sym same) in
    record {
      draft = parts_draft s b.choice.parts kept.0.0 kept.0.1 limits;
      text = goes.text ∙ ap (λ (r : List ℕ). lines_text goes.lines ++ r) end ∙ append-nil (lines_text goes.lines)
          ∙ ap lines_text (sym kept.1) ∙ text_of_lines (so_far (whole wide b)) ∙ ap rows_text (sym same);
      last = omega (arith, goes.taken, count);
    }

wide_cases : (w : Bool) → (w ≡ true) ⊎ (w ≡ false)
wide_cases true = inl refl
wide_cases false = inr refl

-- a draft with need of its edition is a block
pub spells_by : (bytes : List ℕ) (wide : Bool) (b : Block) (taken : ℕ) → IsRead bytes wide b taken → (wide ≡ true → is_wide b.problem b.choice ≡ true) → Spells bytes b
spells_by bytes wide b taken read need = record {
  block = read.draft.block;
  text = read.text ∙ ap (λ (w : Bool). rows_text (draft_rows w b)) (same wide need read.draft.edition);
}
  where
    same : (w : Bool) → (w ≡ true → is_wide b.problem b.choice ≡ true) → (is_wide b.problem b.choice ≡ true → w ≡ true) → w ≡ is_wide b.problem b.choice
    same true n e = sym (n refl)
    same false n e = elim (wide_cases (is_wide b.problem b.choice)) [ inl h ↦ absurd (cc (e h)) | inr h ↦ sym h ]

-- a draft without need is needless
pub needless_by : (bytes : List ℕ) (b : Block) (taken : ℕ) → IsRead bytes true b taken → is_wide b.problem b.choice ≡ false → IsFormLine bytes taken
needless_by bytes b taken read small = inl (record { draft = b; block = read.draft.block; small = small; text = read.text; last = read.last })

-- two drafts never share one text
pub record Same (v w : Bool) (a b : Block) : Type 0 where
  pub editions : v ≡ w
  pub blocks : a ≡ b

no_lines_text : (zs : List (List ℕ)) → [] ≡ lines_text zs → zs ≡ []
no_lines_text [] e = refl
no_lines_text (z ∷ zs) e = absurd (no_text z (lines_text zs) (sym (append_assoc z (10 ∷ []) (lines_text zs)) ∙ sym e))

stage_parts : (s t : Setting) (ps qs : List Part) → Whole s ps ≡ Whole t qs → (s ≡ t) × (ps ≡ qs)
stage_parts s t ps qs e = (cc, cc)

pub one_text : (v w : Bool) (a b : Block) → IsDraft v a → IsDraft w b → rows_text (draft_rows v a) ≡ rows_text (draft_rows w b) → Same v w a b
one_text v w a b one two same =
    let xs = map row_line (draft_rows v a) in
    let ys = map row_line (draft_rows w b) in
    let c = cut xs ys [] (draft_each v a one) (draft_each w b two) (append-nil (lines_text xs) ∙ text_of_lines (draft_rows v a) ∙ same ∙ sym (text_of_lines (draft_rows w b))) in
    let lines : ys ≡ xs = c.parts ∙ ap (λ (zs : List (List ℕ)). xs ++ zs) (no_lines_text c.behind c.text) ∙ append-nil xs in
    let stages : whole v a ≡ whole w b = some_is (whole v a) (whole w b) (sym (draft_led v a one) ∙ ap (run Start) (sym lines) ∙ draft_led w b two) in
    let both = stage_parts (setting_of v a) (setting_of w b) a.choice.parts b.choice.parts stages in
    record {
      editions = ap (λ (s : Setting). s.wide) both.0;
      blocks = ap (λ (s : Setting). block_with s.problem s.budget s.places a.choice.parts) both.0 ∙ ap (λ (ps : List Part). block_with b.problem b.budget b.choice.places ps) both.1;
    }

draft_of : (bytes : List ℕ) (b : Block) → Spells bytes b → IsDraft (is_wide b.problem b.choice) b
draft_of bytes b spells = record { block = spells.block; edition = λ told. told }

-- what spells one block spells no other
pub only_block : (bytes : List ℕ) (a b : Block) → Spells bytes a → Spells bytes b → a ≡ b
only_block bytes a b one two = (one_text (is_wide a.problem a.choice) (is_wide b.problem b.choice) a b (draft_of bytes a one) (draft_of bytes b two) (sym one.text ∙ two.text)).blocks

-- and has no line of FORM
pub no_form : (bytes : List ℕ) (b : Block) (k : ℕ) → Spells bytes b → IsFormLine bytes k → ⊥
no_form bytes b k spells (inl needless) =
    let same = one_text true (is_wide b.problem b.choice) needless.draft b (record { block = needless.block; edition = λ _. refl }) (draft_of bytes b spells) (sym needless.text ∙ spells.text) in
    let wide : is_wide needless.draft.problem needless.draft.choice ≡ true = ap (λ (x : Block). is_wide x.problem x.choice) same.blocks ∙ sym same.editions in
    cc (wide, needless.small)
no_form bytes b k spells (inr breaks) = breaks.1 (is_wide b.problem b.choice) b (draft_of bytes b spells) spells.text

-- ---- how a reader ends

whole_ends : (s : Setting) (parts : List Part) (o : Option Row) → option_and_then (step (Whole s parts)) o ≡ None
unfolding step
whole_ends s parts None = refl
whole_ends s parts (Some row) = refl

next_ends : (s : Setting) (parts : List Part) (line : List ℕ) → next (Whole s parts) line ≡ None
unfolding next
next_ends s parts line = whole_ends s parts (row_of (length s.problem.items) (length s.problem.lines) line)

-- bytes behind the last row
pub more_stops : (bytes : List ℕ) (wide : Bool) (b : Block) (u : Unread) (k : ℕ) → Goes Start (record { text = bytes; taken = 0 }) (whole wide b) u → IsProblem b.problem →
    0 < length u.text → k ≡ u.taken + 1 → IsFormLine bytes k
more_stops bytes wide b u k goes limits some number = form_line bytes k (record {
  lines = goes.lines;
  rest = u.text;
  stage = whole wide b;
  each = goes.each;
  text = goes.text;
  led = goes.led;
  number = omega (arith, goes.taken, number);
  stuck = λ line more is text. next_ends (setting_of wide b) b.choice.parts line;
  bounds = limits;
  unended = λ e parts same none. let empty : length u.text ≡ 0 = ap length none in omega (arith, some, empty);
})

-- where it is known what was found and where FORM stands, no other block is spelled
pub only_by : (bytes : List ℕ) (r : Result Block BlockNo) → IfOk r (λ block. Spells bytes block) → ((k : ℕ) → r ≡ Err (Form k) → IsFormLine bytes k) →
    (b : Block) → Spells bytes b → IfOk r (λ block. block ≡ b) × ((k : ℕ) → r ≡ Err (Form k) → ⊥)
only_by bytes (Ok a) found form b spells = (only_block bytes a b found spells, λ k e. cc)
only_by bytes (Err why) found form b spells = (tt, λ k told. no_form bytes b k spells (form k told))

-- the two ways in which a whole draft ends
pub needless_ends : (bytes : List ℕ) (wide : Bool) (b : Block) (u : Unread) → Goes Start (record { text = bytes; taken = 0 }) (whole wide b) u → IsProblem b.problem → u.text ≡ [] →
    (wide && not (is_wide b.problem b.choice)) ≡ true → IsFormLine bytes u.taken
needless_ends bytes wide b u goes limits end told =
    let parts = and_parts wide (not (is_wide b.problem b.choice)) told in
    let read = whole_read bytes wide b u goes limits end in
    needless_by bytes b u.taken (subst (λ (w : Bool). IsRead bytes w b u.taken) parts.0 read) (not_true (is_wide b.problem b.choice) parts.1)
  where
    not_true : (w : Bool) → not w ≡ true → w ≡ false
    not_true true e = cc
    not_true false e = refl

pub block_ends : (bytes : List ℕ) (wide : Bool) (b : Block) (u : Unread) → Goes Start (record { text = bytes; taken = 0 }) (whole wide b) u → IsProblem b.problem → u.text ≡ [] →
    (wide && not (is_wide b.problem b.choice)) ≡ false → Spells bytes b
block_ends bytes wide b u goes limits end told =
    spells_by bytes wide b u.taken (whole_read bytes wide b u goes limits end) (need wide (is_wide b.problem b.choice) told)
  where
    need : (v w : Bool) → (v && not w) ≡ false → v ≡ true → w ≡ true
    need v true e f = refl
    need true false e f = cc
    need false false e f = cc

pub text_empty : (text : List ℕ) → length text ≡ 0 → text ≡ []
text_empty [] told = refl
text_empty (b ∷ text) told = absurd (omega (arith, told))
