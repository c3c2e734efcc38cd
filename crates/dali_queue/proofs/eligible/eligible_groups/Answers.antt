use Rattle.std.proofs.Common.{◌≡◌, ◌∙◌, ◌+◌, ◌≤◌, ◌++◌, ◌∷◌, [], ℕ, List, is_some, ap, sym, subst, arith, length, take}
use Rattle.std.specs.Prelude.{unwrap_or}
use Rattle.std.proofs.lemmas.List.{length-map, length-take-le, map_more, take_all}
use Rattle.dali_base.specs.NameList.{place_of}
use Rattle.dali_account.proofs.PlaceLemmas.{known_place}
use Rattle.dali_queue.specs.declared.eligible.Eligible.{Eligible}
use Rattle.dali_queue.specs.declared.entries.Entry.{Entry}
use Rattle.dali_queue.specs.Queue.{Queued}
use Rattle.dali_queue.specs.CycleProblem.{may_settle}
use Rattle.dali_queue.specs.Eligible.{waiting_of, queue_with, with_place}
use Rattle.dali_queue.proofs.Gathering.{Gathered, gathered_none, gathered_yes, gathered_no, gathered_few, not_same, item_gathered, members_gathered}
use Rattle.dali_queue.proofs.eligible.eligible_groups.Goals.{then-is_none+in_ok-add, else-is_none}
use Rattle.dali_queue.proofs.eligible.eligible_groups.Goals as goal

abbrev queued : Entry → Queued
queued e = record { item = e.item; group = e.group }

sized : (es : List Entry) (i : ℕ) → i ≤ length es → length (waiting_of (take i es)) ≡ i
sized es i within = length-map (take i es) queued ∙ length-take-le i es within

pub loop-place-init : goal.loop-place-init
loop-place-init c = gathered_none (may_settle (queue_with c.args.entries.now c.args.cutoffs.now) c.args.moment) c.new-eligible.result
    c.new-eligible.ensures.groups c.new-eligible.ensures.readied c.new-eligible.ensures.at c.new-eligible.ensures.item c.new-eligible.ensures.members

pub add-requires-clause-few : goal.add-requires-clause-few
add-requires-clause-few c =
    let es : List Entry = c.args.entries.now in
    let i : ℕ = c.loop-place.place in
    let few = gathered_few (may_settle (queue_with es c.args.cutoffs.now) c.args.moment) (waiting_of (take i es)) c.loop-place.eligible c.loop-place.invariant in
    let size = sized es i (omega (arith, c.loop-place-test.true)) in
    omega (arith, few, size, c.loop-place-test.true, c.requires)

pub add-requires-clause-members : goal.add-requires-clause-members
add-requires-clause-members c = ap length c.loop-place.invariant.members ∙ length-map c.loop-place.eligible.groups.names _

pub loop-place-preserved : goal.loop-place-preserved
loop-place-preserved c =
    let es : List Entry = c.args.entries.now in
    let i : ℕ = c.loop-place.place in
    let x : Entry = c.index-entries-place.result in
    let ws : List Queued = waiting_of (take i es) in
    let size : length ws ≡ i = sized es i (omega (arith, c.loop-place-test.true)) in
    let more : waiting_of (take (i + 1) es) ≡ ws ++ queued x ∷ [] = map_more queued es i x c.loop-place-test.true ∙ ap (λ (e : Entry). ws ++ queued e ∷ []) (sym c.index-entries-place.is) in
    let tested : may_settle (queue_with es c.args.cutoffs.now) c.args.moment (queued x) ≡ c.is_none.result =
    not_same (may_settle (queue_with es c.args.cutoffs.now) c.args.moment (queued x)) c.is_none.result
    (sym (c.in_ok-late.ensures x.group) ∙ sym (known_place c.in_ok-late.late.names x.group) ∙ ap is_some (sym c.place.ensures) ∙ c.is_none.ensures) in
    elim c.if-is_none.branch [
      | then-is_none+in_ok-add w ↦
          subst (λ (f : Eligible). Gathered (may_settle (queue_with es c.args.cutoffs.now) c.args.moment) (waiting_of (take (i + 1) es)) f) (sym w.eligible-is)
          (subst (λ (vs : List Queued). Gathered (may_settle (queue_with es c.args.cutoffs.now) c.args.moment) vs w.add.new.self) (sym more)
          (gathered_yes (may_settle (queue_with es c.args.cutoffs.now) c.args.moment) ws (queued x) c.loop-place.eligible w.add.new.self c.loop-place.invariant (tested ∙ w.if-is_none.true)
          w.in_ok-add.ensures.groups
          (w.in_ok-add.ensures.at ∙ ap (λ n. c.loop-place.eligible.at ++ n ∷ []) (sym size))
          w.in_ok-add.ensures.item
          (w.in_ok-add.ensures.members ∙ ap (with_place c.loop-place.eligible.members.items (unwrap_or (place_of w.add.new.self.groups.names x.group) 0)) (sym size))))
      | else-is_none w ↦
          subst (λ (vs : List Queued). Gathered (may_settle (queue_with es c.args.cutoffs.now) c.args.moment) vs c.if-is_none.eligible) (sym more)
          (gathered_no (may_settle (queue_with es c.args.cutoffs.now) c.args.moment) ws (queued x) c.loop-place.eligible c.if-is_none.eligible c.loop-place.invariant (tested ∙ w.if-is_none.false) w.eligible-is)
    ]

pub returns-clause-at : goal.returns-clause-at
returns-clause-at c =
    (subst (λ (es : List Entry). Gathered (may_settle (queue_with c.args.entries.now c.args.cutoffs.now) c.args.moment) (waiting_of es) c.loop-place.eligible)
    (take_all c.loop-place.place c.args.entries.now c.loop-place-test.false) c.loop-place.invariant).at

pub returns-clause-item : goal.returns-clause-item
returns-clause-item c = item_gathered (queue_with c.args.entries.now c.args.cutoffs.now) c.args.moment c.loop-place.eligible
    (subst (λ (es : List Entry). Gathered (may_settle (queue_with c.args.entries.now c.args.cutoffs.now) c.args.moment) (waiting_of es) c.loop-place.eligible)
    (take_all c.loop-place.place c.args.entries.now c.loop-place-test.false) c.loop-place.invariant)

pub returns-clause-members : goal.returns-clause-members
returns-clause-members c = members_gathered (queue_with c.args.entries.now c.args.cutoffs.now) c.args.moment c.loop-place.eligible
    (subst (λ (es : List Entry). Gathered (may_settle (queue_with c.args.entries.now c.args.cutoffs.now) c.args.moment) (waiting_of es) c.loop-place.eligible)
    (take_all c.loop-place.place c.args.entries.now c.loop-place-test.false) c.loop-place.invariant)
