use Rattle.std.proofs.Common.{◌≡◌, ◌≢◌, inl, inr, ℕ, suc, ◌+◌, ◌<◌, ℤ, pos, Bool, true, false, List, [], ◌∷◌, ◌++◌, length, take, get_or, set, eqb, refl, ap, sym, ◌∙◌, arith, add-one}
use Rattle.std.specs.List.{All, AllPairs}
use Rattle.std.specs.Ordering.{int_eq}
use Rattle.std.specs.Prelude.{if◌then◌else◌}
use Rattle.std.proofs.lemmas.Bool.Decides.{eqb_tells, Decides-int_eq}
use Rattle.std.proofs.lemmas.Int.{ints}
use Rattle.std.proofs.lemmas.List.{append-nil, append_assoc, take_more, get_or-set_same, get_or-set_other}
use Rattle.std.proofs.lemmas.List.Elements.{All-head, All-tail}
use Rattle.dali_problem.specs.declared.row.Effect.{Effect}
use Rattle.dali_problem.specs.declared.columns.Touch.{Touch}
use Rattle.dali_problem.specs.Sums.{sum_over}
use Rattle.dali_problem.specs.Clearing.{Clearing, item_at, on_line}
use Rattle.dali_problem.specs.Limits.{AreEffects}
use Rattle.dali_problem.specs.Touches.{touch_by, touches_below, entries, column_at}
use Rattle.dali_problem.proofs.Lines.{on_same, on_other}
use Rattle.dali_problem.proofs.Turned.{none_on}

-- the entry of one effect
abbrev entry : ℕ → ℕ → Effect → List Touch
entry j l e = if eqb e.line l then record { place = j; amount = e.amount } ∷ [] else []

entry_same : (j l : ℕ) (e : Effect) → eqb e.line l ≡ true → entry j l e ≡ record { place = j; amount = e.amount } ∷ []
entry_same j l e same = ap (λ (b : Bool). if b then record { place = j; amount = e.amount } ∷ [] else []) same

entry_other : (j l : ℕ) (e : Effect) → eqb e.line l ≡ false → entry j l e ≡ []
entry_other j l e other = ap (λ (b : Bool). if b then record { place = j; amount = e.amount } ∷ [] else []) other

entries_append : (j l : ℕ) (xs ys : List Effect) → entries j l (xs ++ ys) ≡ entries j l xs ++ entries j l ys
entries_append j l [] ys = refl
entries_append j l (x ∷ xs) ys =
    ap (λ zs. entry j l x ++ zs) (entries_append j l xs ys) ∙ sym (append_assoc (entry j l x) (entries j l xs) (entries j l ys))

entries_more : (j l i : ℕ) (d : Effect) (es : List Effect) → i < length es →
    entries j l (take (i + 1) es) ≡ entries j l (take i es) ++ entry j l (get_or es i d)
entries_more j l i d es within =
    ap (entries j l) (take_more es i d within)
    ∙ entries_append j l (take i es) (get_or es i d ∷ [])
    ∙ ap (λ zs. entries j l (take i es) ++ zs) (append-nil (entry j l (get_or es i d)))

-- one column grows by one touch
pub column_step : (start columns : List (List Touch)) (j i : ℕ) (d : Effect) (es : List Effect) (v : List Touch) (k : ℕ) → i < length es →
    v ≡ column_at columns (get_or es i d).line ++ record { place = j; amount = (get_or es i d).amount } ∷ [] →
    ((m : ℕ) → m < length columns → column_at columns m ≡ column_at start m ++ entries j m (take i es)) → k < length columns →
    column_at (set columns (get_or es i d).line v) k ≡ column_at start k ++ entries j k (take (i + 1) es)
column_step start columns j i d es v k within new before inside =
    let e : Effect = get_or es i d in
    let more : entries j k (take (i + 1) es) ≡ entries j k (take i es) ++ entry j k e = entries_more j k i d es within in
    elim (eqb_tells e.line k) as (λ _. column_at (set columns e.line v) k ≡ column_at start k ++ entries j k (take (i + 1) es)) [
      | inl same ↦
          let touch : List Touch = record { place = j; amount = e.amount } ∷ [] in
          ap (λ n. column_at (set columns n v) k) same.1 ∙ get_or-set_same columns k v [] inside
          ∙ new ∙ ap (λ n. column_at columns n ++ touch) same.1
          ∙ ap (λ zs. zs ++ touch) (before k inside)
          ∙ append_assoc (column_at start k) (entries j k (take i es)) touch
          ∙ ap (λ zs. column_at start k ++ (entries j k (take i es) ++ zs)) (sym (entry_same j k e same.0))
          ∙ ap (λ zs. column_at start k ++ zs) (sym more)
      | inr other ↦
          get_or-set_other columns e.line k v [] (λ q. other.1 (sym q))
          ∙ before k inside
          ∙ ap (λ zs. column_at start k ++ zs) (sym (append-nil (entries j k (take i es))))
          ∙ ap (λ zs. column_at start k ++ (entries j k (take i es) ++ zs)) (sym (entry_other j k e other.0))
          ∙ ap (λ zs. column_at start k ++ zs) (sym more)
    ]

entries_none : (j l : ℕ) (es : List Effect) → All (λ e. e.line ≢ l) es → entries j l es ≡ []
entries_none j l [] none = refl
entries_none j l (e ∷ es) none =
    let first = All-head (λ (x : Effect). x.line ≢ l) e es none in
    let rest = entries_none j l es (All-tail (λ (x : Effect). x.line ≢ l) e es none) in
    elim (eqb_tells e.line l) as (λ _. entries j l (e ∷ es) ≡ []) [
      | inl same ↦ absurd (first same.1)
      | inr other ↦ ap (λ zs. zs ++ entries j l es) (entry_other j l e other.0) ∙ rest
    ]

false_from : (b : Bool) → ((b ≡ true) → ⊥) → b ≡ false
false_from true wrong = absurd (wrong refl)
false_from false wrong = refl

touch_not_zero : (j : ℕ) (a : ℤ) → a ≢ pos 0 → touch_by j a ≡ record { place = j; amount = a } ∷ []
touch_not_zero j a other =
    let not_zero : int_eq a (pos 0) ≡ false = false_from (int_eq a (pos 0)) (λ told. other ((Decides-int_eq a (pos 0)).0 told)) in
    let touch : Bool → List Touch = λ (b : Bool). if b then [] else record { place = j; amount = a } ∷ [] in
    ap touch not_zero

-- effects on rising lines, none of 0, touch a line once where they change it
pub entries_are : (j l : ℕ) (es : List Effect) → AllPairs (λ a b. a.line < b.line) es → All (λ e. e.amount ≢ pos 0) es →
    entries j l es ≡ touch_by j (sum_over (on_line l) es)
entries_are j l [] rising not_zero = refl
entries_are j l (e ∷ es) rising not_zero = elim (eqb_tells e.line l) as (λ _. entries j l (e ∷ es) ≡ touch_by j (sum_over (on_line l) (e ∷ es))) [
  | inl same ↦
      let none : All (λ (x : Effect). x.line ≢ l) es = λ k d within q.
      (let above : e.line < (get_or es k d).line = rising 0 (suc k) d (omega arith) (omega arith) in
      let at : (get_or es k d).line ≡ l = q in
      let here : e.line ≡ l = same.1 in
      absurd (omega arith)) in
      let amount : e.amount ≢ pos 0 = All-head (λ (x : Effect). x.amount ≢ pos 0) e es not_zero in
      let here : on_line l e ≡ e.amount = on_same e l same.0 in
      let rest : sum_over (on_line l) es ≡ pos 0 = none_on l es none in
      let sum : sum_over (on_line l) (e ∷ es) ≡ e.amount = omega (arith, ints) in
      ap (λ zs. zs ++ entries j l es) (entry_same j l e same.0)
      ∙ ap (λ zs. (record { place = j; amount = e.amount } ∷ []) ++ zs) (entries_none j l es none)
      ∙ sym (touch_not_zero j e.amount amount)
      ∙ ap (touch_by j) (sym sum)
  | inr other ↦
      let here : on_line l e ≡ pos 0 = on_other e l other.0 in
      let sum : sum_over (on_line l) (e ∷ es) ≡ sum_over (on_line l) es = omega (arith, ints) in
      ap (λ zs. zs ++ entries j l es) (entry_other j l e other.0)
      ∙ entries_are j l es (λ a b d before within. rising (suc a) (suc b) d (omega arith) (omega arith))
      (All-tail (λ (x : Effect). x.amount ≢ pos 0) e es not_zero)
      ∙ ap (touch_by j) (sym sum)
]

-- a place more is entered
pub touches_step : (p : Clearing) (n l j : ℕ) (es : List Effect) (old new : List Touch) → AreEffects n es → es ≡ (item_at p j).effects →
    old ≡ touches_below p l j → new ≡ old ++ entries j l es → new ≡ touches_below p l (j + 1)
touches_step p n l j es old new are same before is =
    is ∙ ap (λ zs. zs ++ entries j l es) before
    ∙ ap (λ zs. touches_below p l j ++ zs) (entries_are j l es are.rising are.not_zero)
    ∙ ap (λ (xs : List Effect). touches_below p l j ++ touch_by j (sum_over (on_line l) xs)) same
    ∙ ap (touches_below p l) (sym (add-one j))
