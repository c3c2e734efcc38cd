use Rattle.std.proofs.Common.{◌≡◌, ◌+◌, List, [], ◌∷◌, ◌++◌, length, refl, sym, ap, ◌∙◌, subst, arith, length-append}
use Rattle.dali_problem.specs.declared.problem.ItemRow.{ItemRow}
use Rattle.dali_problem.specs.declared.problem.Problem.TheInside.{Inside}
use Rattle.dali_problem.specs.Clearing.{Item, Clearing}
use Rattle.dali_problem.specs.Limits.{IsProblem}
use Rattle.dali_problem.specs.Layout.{view_of}
use Rattle.dali_problem.proofs.Laid.{view_added, laid_added, limits_added}
use Rattle.dali_problem.proofs.problem.Problem.add_item.Goals as goal

pub invariant_of-self-2 : goal.invariant_of-self-2
invariant_of-self-2 c =
    let after : Inside = record { lines = c.self.inside.lines; rows = c.push_reserved.new.self; column = c.extend_from_slice.new.self } in
    let row : ItemRow = record { id = c.args.id; value = c.args.value; start = c.len-start.result; end = c.len-end.result } in
    let item : Item = record { id = c.args.id; value = c.args.value; effects = c.args.effects.now } in
    let column : c.extend_from_slice.new.self.items ≡ c.self.inside.column.items ++ c.args.effects.now =
    c.in_ok-extend_from_slice.ensures.items in
    let rows : c.push_reserved.new.self.items ≡ c.self.inside.rows.items ++ row ∷ [] =
    c.push_reserved.ensures.items ∙ ap (λ (rs : List ItemRow). rs ++ row ∷ []) c.in_ok-reserve.ensures.items in
    let long : length c.extend_from_slice.new.self.items ≡ length c.self.inside.column.items + length c.args.effects.now =
    ap length column ∙ length-append c.self.inside.column.items c.args.effects.now in
    let start : c.len-start.result ≡ length c.self.inside.column.items = grind arith in
    let end : c.len-end.result ≡ length c.self.inside.column.items + length c.args.effects.now = grind arith in
    let seen = view_added c.self.inside after row c.args.effects.now c.self.invariant refl column rows start end in
    let bounds : IsProblem c.args.self.now = subst IsProblem c.self.view_is c.self.invariant.bounds in
    let more : IsProblem (record { lines = c.args.self.now.lines; items = c.args.self.now.items ++ item ∷ [] }) =
    limits_added c.args.self.now item bounds c.requires.few c.requires.new_id
    (record { value_low = c.requires.value_low; value_high = c.requires.value_high; effects = c.requires.effects })
    c.requires.total in
    let whole : view_of after ≡ record { lines = c.args.self.now.lines; items = c.args.self.now.items ++ item ∷ [] } =
    seen ∙ ap (λ (p : Clearing). record { lines = p.lines; items = p.items ++ item ∷ [] }) c.self.view_is in
    laid_added c.self.inside after row c.args.effects.now c.self.invariant refl column rows start end (subst IsProblem (sym whole) more)

pub returns-clause-added : goal.returns-clause-added
returns-clause-added c =
    let after : Inside = record { lines = c.self.inside.lines; rows = c.push_reserved.new.self; column = c.extend_from_slice.new.self } in
    let row : ItemRow = record { id = c.args.id; value = c.args.value; start = c.len-start.result; end = c.len-end.result } in
    let item : Item = record { id = c.args.id; value = c.args.value; effects = c.args.effects.now } in
    let column : c.extend_from_slice.new.self.items ≡ c.self.inside.column.items ++ c.args.effects.now =
    c.in_ok-extend_from_slice.ensures.items in
    let rows : c.push_reserved.new.self.items ≡ c.self.inside.rows.items ++ row ∷ [] =
    c.push_reserved.ensures.items ∙ ap (λ (rs : List ItemRow). rs ++ row ∷ []) c.in_ok-reserve.ensures.items in
    let long : length c.extend_from_slice.new.self.items ≡ length c.self.inside.column.items + length c.args.effects.now =
    ap length column ∙ length-append c.self.inside.column.items c.args.effects.now in
    let start : c.len-start.result ≡ length c.self.inside.column.items = grind arith in
    let end : c.len-end.result ≡ length c.self.inside.column.items + length c.args.effects.now = grind arith in
    let seen = view_added c.self.inside after row c.args.effects.now c.self.invariant refl column rows start end in
    seen ∙ ap (λ (p : Clearing). record { lines = p.lines; items = p.items ++ item ∷ [] }) c.self.view_is
