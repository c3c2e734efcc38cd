use Rattle.std.proofs.Common.{◌≡◌, ◌≢◌, ◌<◌, ◌∙◌, ℕ, pos, ◌+ℤ◌, true, List, length, get_or, set, ap, sym, subst, arith}
use Rattle.dali_problem.specs.declared.row.Effect.{Effect}
use Rattle.dali_problem.specs.declared.mark.Mark.{Mark}
use Rattle.dali_problem.specs.declared.mark.Mark.TheVariants.{Chosen, Left}
use Rattle.dali_problem.specs.Clearing.{item_at}
use Rattle.dali_problem.specs.Partial.{mark}
use Rattle.dali_problem.specs.Rules.{is_negative}
use Rattle.dali_rest.proofs.Marks.{mark_same, mark_other, put_back, within_chosen}
use Rattle.dali_greedy.specs.Standing.{Holds, exchanged}
use Rattle.dali_greedy.proofs.Fits.{none_of, bears_of, covers_of, exchange_holds}
use Rattle.dali_greedy.proofs.stand.Stand.exchange.Goals as goal

-- the place that isn't in the set is still left once the other is
still_left : (f g : List Mark) (i j : ℕ) → mark g i ≡ Chosen → mark g j ≡ Left → f ≡ set g i Left → mark f j ≡ Left
still_left f g i j chosen left is =
    let apart : j ≢ i = λ same. absurd (let other : mark g i ≡ Left = ap (mark g) (sym same) ∙ left in cc (chosen, other)) in
    ap (λ (h : List Mark). mark h j) is ∙ mark_other g i j Left apart ∙ left

back : (f g h : List Mark) (j : ℕ) → mark f j ≡ Left → g ≡ set f j Chosen → h ≡ set g j Left → h ≡ f
back f g h j left there again = again ∙ ap (λ (x : List Mark). set x j Left) there ∙ put_back f j Chosen Left left

whole : (f g h : List Mark) (i : ℕ) → mark g i ≡ Chosen → f ≡ set g i Left → h ≡ set f i Chosen → h ≡ g
whole f g h i chosen there again = again ∙ ap (λ (x : List Mark). set x i Chosen) there ∙ put_back g i Left Chosen chosen

pub returns-then-not-bears-clause-same : goal.returns-then-not-bears-clause-same
returns-then-not-bears-clause-same c =
    λ _. whole c.leave.new.self.marks c.args.self.now.marks c.choose.new.self.marks c.args.given c.requires.given c.leave.ensures.marks c.choose.ensures.marks

pub returns-then-not-bears-clause-fails : goal.returns-then-not-bears-clause-fails
returns-then-not-bears-clause-fails c = λ _ holds.
    let left = still_left c.leave.new.self.marks c.args.self.now.marks c.args.given c.args.taken c.requires.given c.requires.taken c.leave.ensures.marks in
    let same : Holds c.args.problem.now (set c.leave.new.self.marks c.args.taken Chosen) =
    subst (λ (f : List Mark). Holds c.args.problem.now (set f c.args.taken Chosen)) (sym c.leave.ensures.marks) holds in
    let all = bears_of c.args.problem.now c.leave.new.self c.args.taken c.items-items.ensures.bounds c.leave.ensures.of left same in
    let told : c.bears.result ≡ true =
    c.bears.ensures ∙ (none_of (λ (e : Effect). is_negative (get_or c.leave.new.self.has e.line (pos 0) +ℤ e.amount)) (item_at c.args.problem.now c.args.taken).effects).1 all in
    let not_told = c.if-not-bears.true in
    absurd (cc (told, not_told))

pub returns-then-covers-clause-holds : goal.returns-then-covers-clause-holds
returns-then-covers-clause-holds c = λ _.
    let left = still_left c.leave.new.self.marks c.args.self.now.marks c.args.given c.args.taken c.requires.given c.requires.taken c.leave.ensures.marks in
    let bears = (none_of (λ (e : Effect). is_negative (get_or c.leave.new.self.has e.line (pos 0) +ℤ e.amount)) (item_at c.args.problem.now c.args.taken).effects).0
    (sym c.bears.ensures ∙ c.if-not-bears.false) in
    let covers = (none_of (λ (e : Effect). is_negative (get_or c.choose-2.new.self.has e.line (pos 0))) (item_at c.args.problem.now c.args.given).effects).0
    (sym c.covers.ensures ∙ c.if-covers.true) in
    let holds = exchange_holds c.args.problem.now c.args.self.now c.leave.new.self c.choose-2.new.self c.args.given c.args.taken c.items-items.ensures.bounds
    c.requires.of c.leave.ensures.of c.choose-2.ensures.of c.requires.holds c.requires.given c.leave.ensures.marks left c.choose-2.ensures.marks bears covers in
    let same : c.choose-2.new.self.marks ≡ exchanged c.args.self.now.marks c.args.given c.args.taken =
    c.choose-2.ensures.marks ∙ ap (λ (f : List Mark). set f c.args.taken Chosen) c.leave.ensures.marks in
    subst (Holds c.args.problem.now) same holds

pub choose-requires-3-clause-left : goal.choose-requires-3-clause-left
choose-requires-3-clause-left c =
    let left = still_left c.leave.new.self.marks c.args.self.now.marks c.args.given c.args.taken c.requires.given c.requires.taken c.leave.ensures.marks in
    ap (λ (f : List Mark). mark f c.args.given)
    (back c.leave.new.self.marks c.choose-2.new.self.marks c.leave-2.new.self.marks c.args.taken left c.choose-2.ensures.marks c.leave-2.ensures.marks ∙ c.leave.ensures.marks)
    ∙ mark_same c.args.self.now.marks c.args.given Left (within_chosen c.args.self.now.marks c.args.given c.requires.given)

pub returns-clause-same : goal.returns-clause-same
returns-clause-same c = λ _.
    let left = still_left c.leave.new.self.marks c.args.self.now.marks c.args.given c.args.taken c.requires.given c.requires.taken c.leave.ensures.marks in
    whole c.leave-2.new.self.marks c.args.self.now.marks c.choose-3.new.self.marks c.args.given c.requires.given
    (back c.leave.new.self.marks c.choose-2.new.self.marks c.leave-2.new.self.marks c.args.taken left c.choose-2.ensures.marks c.leave-2.ensures.marks ∙ c.leave.ensures.marks)
    c.choose-3.ensures.marks

pub returns-clause-fails : goal.returns-clause-fails
returns-clause-fails c = λ _ holds.
    let within : c.args.given < length c.args.problem.now.items = omega (arith, within_chosen c.args.self.now.marks c.args.given c.requires.given, c.requires.of.marks) in
    let same : c.choose-2.new.self.marks ≡ exchanged c.args.self.now.marks c.args.given c.args.taken =
    c.choose-2.ensures.marks ∙ ap (λ (f : List Mark). set f c.args.taken Chosen) c.leave.ensures.marks in
    let all = covers_of c.args.problem.now c.choose-2.new.self c.args.given c.items-items.ensures.bounds c.choose-2.ensures.of within
    (subst (Holds c.args.problem.now) (sym same) holds) in
    let told : c.covers.result ≡ true =
    c.covers.ensures ∙ (none_of (λ (e : Effect). is_negative (get_or c.choose-2.new.self.has e.line (pos 0))) (item_at c.args.problem.now c.args.given).effects).1 all in
    let not_told = c.if-covers.false in
    absurd (cc (told, not_told))
