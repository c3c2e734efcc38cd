use Rattle.std.proofs.Common.{◌≡◌, ◌≢◌, ℕ, ◌+◌, ◌-◌, ◌*◌, ◌^◌, ◌<◌, ◌≤◌, List, [], ◌∷◌, ◌++◌, length, refl, ap, sym, ◌∙◌, subst, arith, map, take, drop, sum_by, length-append}
use Rattle.std.specs.List.{All, slice_range}
use Rattle.std.proofs.lemmas.List.{drop-append-le, take-append-le, take_all, length-drop, map_push}
use Rattle.std.proofs.lemmas.List.Elements.{All-head, All-tail, All-push, All-weaker}
use Rattle.std.proofs.lemmas.List.Quantifiers.{all_pairs_push}
use Rattle.std.proofs.lemmas.List.Sums.{sum_by_push}
use Rattle.std.proofs.Math.Seq.{drop-append_seam}
use Rattle.dali_problem.specs.declared.row.Effect.{Effect}
use Rattle.dali_problem.specs.declared.problem.ItemRow.{ItemRow}
use Rattle.dali_problem.specs.Clearing.{Item, Clearing}
use Rattle.dali_problem.specs.Limits.{IsItem, IsProblem}
use Rattle.dali_problem.specs.declared.problem.Problem.TheInside.{Inside}
use Rattle.dali_problem.specs.Layout.{item_in, view_of, IsPlaced, IsLaidOut}

-- a range within a list is the same in a longer one
range_kept : (xs ys : List Effect) (i j : ℕ) → i ≤ j → j ≤ length xs → slice_range (xs ++ ys) i j ≡ slice_range xs i j
range_kept xs ys i j order within =
    let fits : i ≤ length xs = omega arith in
    let room : j - i ≤ length (drop i xs) = omega (arith, length-drop i xs) in
    ap (take (j - i)) (drop-append-le i xs ys fits) ∙ take-append-le (j - i) (drop i xs) ys room

-- what was put behind a list is the range behind it
range_added : (xs ys : List Effect) (i j : ℕ) → i ≡ length xs → j ≡ length xs + length ys → slice_range (xs ++ ys) i j ≡ ys
range_added xs ys i j start end =
    let room : length ys ≤ j - i = omega arith in
    ap (λ n. take (j - i) (drop n (xs ++ ys))) start ∙ ap (take (j - i)) (drop-append_seam xs ys) ∙ take_all (j - i) ys room

rows_kept : (column more : List Effect) (rows : List ItemRow) → All (IsPlaced (length column)) rows →
    map (item_in (column ++ more)) rows ≡ map (item_in column) rows
rows_kept column more [] placed = refl
rows_kept column more (row ∷ rows) placed =
    let first = All-head (IsPlaced (length column)) row rows placed in
    let rest : map (item_in (column ++ more)) rows ≡ map (item_in column) rows =
    rows_kept column more rows (All-tail (IsPlaced (length column)) row rows placed) in
    let e : item_in (column ++ more) row ≡ item_in column row =
    ap (λ (es : List Effect). record { id = row.id; value = row.value; effects = es })
    (range_kept column more row.start row.end first.order first.within) in
    ap (λ (x : Item). x ∷ map (item_in (column ++ more)) rows) e ∙ ap (λ xs. item_in column row ∷ xs) rest

-- the items after a row for the effects that were put behind the column
pub items_added : (column more : List Effect) (rows : List ItemRow) (row : ItemRow) → All (IsPlaced (length column)) rows →
    row.start ≡ length column → row.end ≡ length column + length more →
    map (item_in (column ++ more)) (rows ++ row ∷ [])
    ≡ map (item_in column) rows ++ record { id = row.id; value = row.value; effects = more } ∷ []
items_added column more rows row placed start end =
    map_push (item_in (column ++ more)) rows row
    ∙ ap (λ (xs : List Item). xs ++ item_in (column ++ more) row ∷ []) (rows_kept column more rows placed)
    ∙ ap (λ (es : List Effect). map (item_in column) rows ++ record { id = row.id; value = row.value; effects = es } ∷ [])
    (range_added column more row.start row.end start end)

widened : (n m : ℕ) → n ≤ m → (row : ItemRow) → IsPlaced n row → IsPlaced m row
widened n m wider row placed = record { order = placed.order; within = omega (arith, placed.within) }

pub placed_added : (column more : List Effect) (rows : List ItemRow) (row : ItemRow) → All (IsPlaced (length column)) rows →
    row.start ≡ length column → row.end ≡ length column + length more →
    All (IsPlaced (length (column ++ more))) (rows ++ row ∷ [])
placed_added column more rows row placed start end =
    let long : length (column ++ more) ≡ length column + length more = length-append column more in
    let wider : length column ≤ length (column ++ more) = omega arith in
    All-push (IsPlaced (length (column ++ more))) rows row
    (All-weaker (IsPlaced (length column)) (IsPlaced (length (column ++ more)))
    (widened (length column) (length (column ++ more)) wider) rows placed)
    (record { order = omega arith; within = omega arith })

-- the limits hold with one item more
pub limits_added : (p : Clearing) (item : Item) → IsProblem p → length p.items < 1024 →
    All (λ (r : Item). r.id ≢ item.id) p.items → IsItem (length p.lines) item →
    sum_by (λ (r : Item). r.value) p.items + item.value ≤ 16384 * 10 ^ 15 →
    IsProblem (record { lines = p.lines; items = p.items ++ item ∷ [] })
limits_added p item bounds few new_id fits total = record {
  lines = bounds.lines;
  balances = bounds.balances;
  ordered = bounds.ordered;
  items = omega (arith, length-append p.items (item ∷ []));
  ids = all_pairs_push (λ (a b : Item). a.id ≢ b.id) p.items item bounds.ids (λ k d within. new_id k d within);
  each = All-push (IsItem (length p.lines)) p.items item bounds.each fits;
  total = omega (arith, sum_by_push (λ (r : Item). r.value) p.items item, total);
}

-- the fields after one row and its effects are put behind: what they are seen as, and that they are laid out
pub view_added : (a b : Inside) (row : ItemRow) (more : List Effect) → IsLaidOut a → b.lines ≡ a.lines →
    b.column.items ≡ a.column.items ++ more → b.rows.items ≡ a.rows.items ++ row ∷ [] →
    row.start ≡ length a.column.items → row.end ≡ length a.column.items + length more →
    view_of b ≡ record { lines = (view_of a).lines; items = (view_of a).items ++ record { id = row.id; value = row.value; effects = more } ∷ [] }
view_added a b row more laid lines column rows start end =
    let e : map (item_in b.column.items) b.rows.items ≡ map (item_in (a.column.items ++ more)) (a.rows.items ++ row ∷ []) =
    ap (λ (es : List Effect). map (item_in es) b.rows.items) column
    ∙ ap (map (item_in (a.column.items ++ more))) rows in
    ap (λ (xs : List Item). record { lines = b.lines.items; items = xs }) (e ∙ items_added a.column.items more a.rows.items row laid.placed start end)
    ∙ ap (λ ls. record { lines = ls.items; items = (view_of a).items ++ record { id = row.id; value = row.value; effects = more } ∷ [] }) lines

pub laid_added : (a b : Inside) (row : ItemRow) (more : List Effect) → IsLaidOut a → b.lines ≡ a.lines →
    b.column.items ≡ a.column.items ++ more → b.rows.items ≡ a.rows.items ++ row ∷ [] →
    row.start ≡ length a.column.items → row.end ≡ length a.column.items + length more →
    IsProblem (view_of b) → IsLaidOut b
laid_added a b row more laid lines column rows start end bounds = record {
  placed = subst (λ (es : List Effect). All (IsPlaced (length es)) b.rows.items) (sym column)
      (subst (λ (rs : List ItemRow). All (IsPlaced (length (a.column.items ++ more))) rs) (sym rows)
      (placed_added a.column.items more a.rows.items row laid.placed start end));
  bounds = bounds;
}
