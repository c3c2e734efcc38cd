use Rattle.std.proofs.Common.{◌≡◌, ◌∙◌, ℕ, ◌+◌, true, not, eqb, Option, Some, None, List, [], ◌∷◌, ◌++◌, length, refl, sym, ap, arith, append_assoc, length-append}
use Rattle.std.proofs.lemmas.List.{append-nil, length-append}
use Rattle.std.proofs.lemmas.List.Concat.{flat_map-append}
use Rattle.std.proofs.lemmas.Bool.Decides.{nat_tests}
use Rattle.std.specs.List.{AllByRecursion}
use Rattle.std.specs.Prelude.{option_and_then}
use Rattle.dali_base.proofs.Spelled.{and_parts}
use Rattle.dali_problem.specs.Limits.{IsProblem}
use Rattle.dali_tree.specs.declared.choice.Part.{Part}
use Rattle.dali_cert_print.specs.declared.row.Row.{Row}
use Rattle.dali_cert_text.specs.Form.{IsLine, is_line, lines_text}
use Rattle.dali_cert_text.specs.Reading.{row_of}
use Rattle.dali_cert_text.specs.Stages.{Setting, Stage, Whole, problem_of, step, next, run, Unread, Goes, Stops, Takes, Lacks}

-- Lines are taken one after the other.

no_end : (b : ℕ) (xs : List ℕ) → is_line (b ∷ xs) ≡ true → b ≡ 10 → ⊥
no_end b xs told e = let other : eqb b 10 ≡ true = grind (arith, nat_tests, e) in
    let none : not (eqb b 10) ≡ true = (and_parts (not (eqb b 10)) (is_line xs) told).0 in
    absurd (grind (arith, nat_tests, none, e))

-- two lines at the front of one text are one
pub cut_same : (a b c d : List ℕ) → is_line a ≡ true → is_line b ≡ true → a ++ 10 ∷ c ≡ b ++ 10 ∷ d → (a ≡ b) × (c ≡ d)
cut_same [] [] c d p q e = (refl, cc)
cut_same [] (y ∷ b) c d p q e = let head : y ≡ 10 = cc in absurd (no_end y b q head)
cut_same (x ∷ a) [] c d p q e = let head : x ≡ 10 = cc in absurd (no_end x a p head)
cut_same (x ∷ a) (y ∷ b) c d p q e =
    let head : x ≡ y = cc in
    let tail : a ++ 10 ∷ c ≡ b ++ 10 ∷ d = cc in
    let rest = cut_same a b c d (and_parts (not (eqb x 10)) (is_line a) p).1 (and_parts (not (eqb y 10)) (is_line b) q).1 tail in
    let front : a ≡ b = rest.0 in
    (cc, rest.1)

pub text_more : (lines : List (List ℕ)) (line rest : List ℕ) → lines_text (lines ++ line ∷ []) ++ rest ≡ lines_text lines ++ (line ++ 10 ∷ rest)
text_more lines line rest =
    ap (λ (t : List ℕ). t ++ rest) (flat_map-append (λ l. l ++ 10 ∷ []) lines (line ∷ []) ∙ ap (λ (t : List ℕ). lines_text lines ++ t) (append-nil (line ++ 10 ∷ [])))
    ∙ append_assoc (lines_text lines) (line ++ 10 ∷ []) rest ∙ ap (λ (t : List ℕ). lines_text lines ++ t) (append_assoc line (10 ∷ []) rest)

pub text_then : (xs ys : List (List ℕ)) (rest : List ℕ) → lines_text (xs ++ ys) ++ rest ≡ lines_text xs ++ (lines_text ys ++ rest)
text_then xs ys rest = ap (λ (t : List ℕ). t ++ rest) (flat_map-append (λ l. l ++ 10 ∷ []) xs ys) ∙ append_assoc (lines_text xs) (lines_text ys) rest

pub each_then : (xs ys : List (List ℕ)) → AllByRecursion IsLine xs → AllByRecursion IsLine ys → AllByRecursion IsLine (xs ++ ys)
each_then [] ys p q = q
each_then (x ∷ xs) ys p q = (p.0, each_then xs ys p.1 q)

led_here : (line : List ℕ) (o : Option Stage) (xs ys : List (List ℕ)) (t : Stage) → ((s : Stage) → run s xs ≡ Some t → run s (xs ++ ys) ≡ run t ys) →
    option_and_then (λ u. run u xs) o ≡ Some t → option_and_then (λ u. run u (xs ++ ys)) o ≡ run t ys
led_here line None xs ys t go told = absurd cc
led_here line (Some u) xs ys t go told = go u told

abbrev some_stage : Stage → Option Stage
some_stage s = Some s

some_same : (s t : Stage) → some_stage s ≡ some_stage t → s ≡ t
some_same s t told = cc

-- lines lead on from where others led
pub led_on : (xs ys : List (List ℕ)) (s t : Stage) → run s xs ≡ Some t → run s (xs ++ ys) ≡ run t ys
led_on [] ys s t told = ap (λ (u : Stage). run u ys) (some_same s t told)
led_on (x ∷ xs) ys s t told = led_here x (next s x) xs ys t (λ u go. led_on xs ys u t go) told

led_one : (t u : Stage) (line : List ℕ) → next t line ≡ Some u → run t (line ∷ []) ≡ Some u
led_one t u line told = ap (option_and_then (λ v. run v [])) told

-- a line whose row may come
pub next_is : (t : Stage) (line : List ℕ) (row : Row) (items lines : ℕ) → items ≡ length (problem_of t).items → lines ≡ length (problem_of t).lines →
    row_of items lines line ≡ Some row → next t line ≡ step t row
unfolding next
next_is t line row items lines i l spelt =
    ap (option_and_then (step t)) (ap (λ (n : ℕ). row_of n (length (problem_of t).lines) line) (sym i) ∙ ap (λ (n : ℕ). row_of items n line) (sym l) ∙ spelt)

pub next_none : (t : Stage) (line : List ℕ) (items lines : ℕ) → items ≡ length (problem_of t).items → lines ≡ length (problem_of t).lines →
    row_of items lines line ≡ None → next t line ≡ None
unfolding next
next_none t line items lines i l none =
    ap (option_and_then (step t)) (ap (λ (n : ℕ). row_of n (length (problem_of t).lines) line) (sym i) ∙ ap (λ (n : ℕ). row_of items n line) (sym l) ∙ none)

pub goes_start : (s : Stage) (u : Unread) → Goes s u s u
goes_start s u = record { lines = []; each = tt; text = refl; led = refl; taken = omega arith }

pub goes_then : (s t v : Stage) (a b c : Unread) → Goes s a t b → Goes t b v c → Goes s a v c
goes_then s t v a b c one two = record {
  lines = one.lines ++ two.lines;
  each = each_then one.lines two.lines one.each two.each;
  text = one.text ∙ ap (λ (r : List ℕ). lines_text one.lines ++ r) two.text ∙ sym (text_then one.lines two.lines c.text);
  led = led_on one.lines two.lines s t one.led ∙ two.led;
  taken = omega (arith, one.taken, two.taken, length-append one.lines two.lines);
}

pub stops_then : (s t : Stage) (a b : Unread) (k : ℕ) → Goes s a t b → Stops t b k → Stops s a k
stops_then s t a b k one two = record {
  lines = one.lines ++ two.lines;
  rest = two.rest;
  stage = two.stage;
  each = each_then one.lines two.lines one.each two.each;
  text = one.text ∙ ap (λ (r : List ℕ). lines_text one.lines ++ r) two.text ∙ sym (text_then one.lines two.lines two.rest);
  led = led_on one.lines two.lines s t one.led ∙ two.led;
  number = omega (arith, one.taken, two.number, length-append one.lines two.lines);
  stuck = two.stuck;
  bounds = two.bounds;
  unended = two.unended;
}

-- one row more
pub goes_row : (s t v : Stage) (a b c : Unread) (row : Row) (items lines : ℕ) → items ≡ length (problem_of t).items → lines ≡ length (problem_of t).lines →
    Goes s a t b → Takes items lines row b c → step t row ≡ Some v → Goes s a v c
goes_row s t v a b c row items lines i l one takes told =
    goes_then s t v a b c one (record {
      lines = takes.line ∷ [];
      each = (takes.is, tt);
      text = takes.text ∙ sym (text_more [] takes.line c.text);
      led = led_one t v takes.line (next_is t takes.line row items lines i l takes.spelt ∙ told);
      taken = takes.taken;
    })

-- a stage that may still go on
pub record IsOpen (t : Stage) : Type 0 where
  pub still : (e : Setting) (parts : List Part) → t ≡ Whole e parts → ⊥

-- no row can be taken
pub stops_lack : (s t : Stage) (a b : Unread) (k items lines : ℕ) → items ≡ length (problem_of t).items → lines ≡ length (problem_of t).lines →
    Goes s a t b → IsProblem (problem_of t) → IsOpen t → (k ≡ b.taken + 1) × Lacks items lines b → Stops s a k
stops_lack s t a b k items lines i l one bounds open' lacks =
    stops_then s t a b k one (record {
      lines = [];
      rest = b.text;
      stage = t;
      each = tt;
      text = refl;
      led = refl;
      number = omega (arith, lacks.0);
      stuck = λ line more is text. next_none t line items lines i l (lacks.1 line more is text);
      bounds = bounds;
      unended = λ e parts whole _. open'.still e parts whole;
    })

-- a row that may not come
pub stops_row : (s t : Stage) (a b c : Unread) (k : ℕ) (row : Row) (items lines : ℕ) → items ≡ length (problem_of t).items → lines ≡ length (problem_of t).lines →
    Goes s a t b → IsProblem (problem_of t) → IsOpen t → Takes items lines row b c → step t row ≡ None → k ≡ c.taken → Stops s a k
stops_row s t a b c k row items lines i l one bounds open' takes told number =
    stops_then s t a b k one (record {
      lines = [];
      rest = b.text;
      stage = t;
      each = tt;
      text = refl;
      led = refl;
      number = omega (arith, takes.taken, number);
      stuck = λ line more is text.
          let same = cut_same takes.line line c.text more takes.is is (sym takes.text ∙ text) in
          ap (next t) (sym same.0) ∙ next_is t takes.line row items lines i l takes.spelt ∙ told;
      bounds = bounds;
      unended = λ e parts whole _. open'.still e parts whole;
    })
