use Rattle.std.proofs.Common.{◌≡◌, ◌∙◌, ℕ, ◌+◌, ◌<◌, length, sym, ap, arith}
use Rattle.std.specs.Prelude.{Result, Ok, Err, IsOk, OnOk}
use Rattle.std.proofs.lemmas.List.{length-map}
use Rattle.std.proofs.lemmas.List.Sums.{sum_by_push}
use Rattle.dali_base.specs.NameList.{NameList, with_name}
use Rattle.dali_problem.specs.Clearing.{Item, Clearing}
use Rattle.dali_cert_text.specs.Stating.{may_item, ids_of, values_of, with_item}
use Rattle.dali_cert_text.proofs.MayLaws.{item_may, ids_more}
use Rattle.dali_cert_text.proofs.statement.Statement.add_item.Goals as goal

on_ok : {X E : Type 0} (r : Result X E) (P : Type 0) → IsOk r → OnOk r P → P
on_ok (Ok x) P ok told = told
on_ok (Err e) P ok told = absurd cc

pub add_item-requires-clause-few : goal.add_item-requires-clause-few
add_item-requires-clause-few c =
    (item_may c.args.wide c.self.inside.problem c.args.id c.args.value c.args.effects.now (ap (λ (p : Clearing). may_item c.args.wide p c.args.id c.args.value c.args.effects.now) c.self.view_is ∙ sym c.may_item.ensures ∙ c.if-not-may_item.false)).few

pub add_item-requires-clause-new_id : goal.add_item-requires-clause-new_id
add_item-requires-clause-new_id c =
    (item_may c.args.wide c.self.inside.problem c.args.id c.args.value c.args.effects.now (ap (λ (p : Clearing). may_item c.args.wide p c.args.id c.args.value c.args.effects.now) c.self.view_is ∙ sym c.may_item.ensures ∙ c.if-not-may_item.false)).new_id

pub add_item-requires-clause-total : goal.add_item-requires-clause-total
add_item-requires-clause-total c =
    (item_may c.args.wide c.self.inside.problem c.args.id c.args.value c.args.effects.now (ap (λ (p : Clearing). may_item c.args.wide p c.args.id c.args.value c.args.effects.now) c.self.view_is ∙ sym c.may_item.ensures ∙ c.if-not-may_item.false)).total

pub add-requires : goal.add-requires
add-requires c =
    let may = item_may c.args.wide c.self.inside.problem c.args.id c.args.value c.args.effects.now (ap (λ (p : Clearing). may_item c.args.wide p c.args.id c.args.value c.args.effects.now) c.self.view_is ∙ sym c.may_item.ensures ∙ c.if-not-may_item.false) in
    let few : length c.self.inside.problem.items < 1024 = may.few in
    let names : length c.ready.new.self.names ≡ length c.self.inside.problem.items =
    ap length (c.ready.ensures.names ∙ c.self.invariant.ids) ∙ length-map c.self.inside.problem.items (λ (item : Item). item.id) in
    omega (arith, few, names)

pub overflow_add-self : goal.overflow_add-self
overflow_add-self c =
    let may = item_may c.args.wide c.self.inside.problem c.args.id c.args.value c.args.effects.now (ap (λ (p : Clearing). may_item c.args.wide p c.args.id c.args.value c.args.effects.now) c.self.view_is ∙ sym c.may_item.ensures ∙ c.if-not-may_item.false) in
    omega (arith, may.total, c.self.invariant.total)

pub invariant_of-self-2 : goal.invariant_of-self-2
invariant_of-self-2 c =
    let may = item_may c.args.wide c.self.inside.problem c.args.id c.args.value c.args.effects.now (ap (λ (p : Clearing). may_item c.args.wide p c.args.id c.args.value c.args.effects.now) c.self.view_is ∙ sym c.may_item.ensures ∙ c.if-not-may_item.false) in
    let few : length c.self.inside.problem.items < 1024 = may.few in
    let size : length c.ready.new.self.names ≡ length c.self.inside.problem.items =
    ap length (c.ready.ensures.names ∙ c.self.invariant.ids) ∙ length-map c.self.inside.problem.items (λ (item : Item). item.id) in
    let problem : c.add_item.new.self ≡ with_item c.self.inside.problem c.args.id c.args.value c.args.effects.now = c.in_ok-add_item.ensures.added in
    let names : c.ready.new.self.names ≡ ids_of c.self.inside.problem = c.ready.ensures.names ∙ c.self.invariant.ids in
    let added : c.add.new.self ≡ with_name c.ready.new.self c.args.id =
    on_ok c.add.result (c.add.new.self ≡ with_name c.ready.new.self c.args.id) (c.add.ensures.readied c.in_ok-ready.ensures.readied) c.add.ensures.ok in
    record {
      ids = ap (λ (n : NameList). n.names) added ∙ ids_more c.self.inside.problem c.args.id c.args.value c.args.effects.now c.ready.new.self names may.new_id
          ∙ sym (ap ids_of problem);
      total = ap (λ (n : ℕ). n + c.args.value) c.self.invariant.total
          ∙ sym (sum_by_push (λ (item : Item). item.value) c.self.inside.problem.items (record { id = c.args.id; value = c.args.value; effects = c.args.effects.now }))
          ∙ sym (ap values_of problem);
    }
