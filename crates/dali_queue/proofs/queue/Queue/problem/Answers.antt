use Rattle.std.proofs.Common.{◌≡◌, ◌∙◌, ap, subst}
use Rattle.dali_queue.specs.Queue.{QueueState}
use Rattle.dali_queue.specs.Limits.{IsQueue}
use Rattle.dali_queue.specs.Eligible.{waiting_of}
use Rattle.dali_queue.proofs.CycleInputs.{at_same, item_same, members_same, members_places, drafted_lines, drafted_items, drafted_problem, input_made}
use Rattle.dali_queue.proofs.queue.Queue.problem.Goals as goal

pub drafts-requires : goal.drafts-requires
drafts-requires c =
    let q = c.args.self.now.queue in
    let kept : IsQueue q = subst (λ (s : QueueState). IsQueue s.queue) c.self.view_is c.self.invariant in
    let waiting : waiting_of c.list.result.now ≡ q.waiting = c.list.ensures ∙ ap (λ (s : QueueState). s.queue.waiting) c.self.view_is in
    let cut : c.self.inside.cutoffs ≡ q.cutoffs = ap (λ (s : QueueState). s.queue.cutoffs) c.self.view_is in
    members_places q c.args.moment c.as_slice.result.now
    (c.as_slice.ensures.value ∙ c.in_ok-at.ensures.members ∙ members_same q c.args.moment c.list.result.now c.self.inside.cutoffs waiting cut) kept

pub draft_problem-requires-clause-lines : goal.draft_problem-requires-clause-lines
draft_problem-requires-clause-lines c =
    let q = c.args.self.now.queue in
    let kept : IsQueue q = subst (λ (s : QueueState). IsQueue s.queue) c.self.view_is c.self.invariant in
    let waiting : waiting_of c.list.result.now ≡ q.waiting = c.list.ensures ∙ ap (λ (s : QueueState). s.queue.waiting) c.self.view_is in
    let cut : c.self.inside.cutoffs ≡ q.cutoffs = ap (λ (s : QueueState). s.queue.cutoffs) c.self.view_is in
    drafted_lines q c.args.moment c.as_slice.result.now
    (c.as_slice.ensures.value ∙ c.in_ok-at.ensures.members ∙ members_same q c.args.moment c.list.result.now c.self.inside.cutoffs waiting cut)
    c.as_slice-2.result.now (c.as_slice-2.ensures.value ∙ c.in_ok-drafts.ensures) kept

pub draft_problem-requires-clause-items : goal.draft_problem-requires-clause-items
draft_problem-requires-clause-items c =
    let q = c.args.self.now.queue in
    let kept : IsQueue q = subst (λ (s : QueueState). IsQueue s.queue) c.self.view_is c.self.invariant in
    let waiting : waiting_of c.list.result.now ≡ q.waiting = c.list.ensures ∙ ap (λ (s : QueueState). s.queue.waiting) c.self.view_is in
    let cut : c.self.inside.cutoffs ≡ q.cutoffs = ap (λ (s : QueueState). s.queue.cutoffs) c.self.view_is in
    drafted_items q c.args.moment c.as_slice.result.now
    (c.as_slice.ensures.value ∙ c.in_ok-at.ensures.members ∙ members_same q c.args.moment c.list.result.now c.self.inside.cutoffs waiting cut)
    c.as_slice-2.result.now (c.as_slice-2.ensures.value ∙ c.in_ok-drafts.ensures) kept

pub returns : goal.returns
returns c =
    let q = c.args.self.now.queue in
    let waiting : waiting_of c.list.result.now ≡ q.waiting = c.list.ensures ∙ ap (λ (s : QueueState). s.queue.waiting) c.self.view_is in
    let cut : c.self.inside.cutoffs ≡ q.cutoffs = ap (λ (s : QueueState). s.queue.cutoffs) c.self.view_is in
    input_made c.args.book.now.book q c.args.moment c.in_ok-problem.problem c.in_ok-at.field-0.at c.in_ok-at.field-0.item
    (drafted_problem q c.args.moment c.as_slice.result.now
    (c.as_slice.ensures.value ∙ c.in_ok-at.ensures.members ∙ members_same q c.args.moment c.list.result.now c.self.inside.cutoffs waiting cut)
    c.as_slice-2.result.now (c.as_slice-2.ensures.value ∙ c.in_ok-drafts.ensures) c.args.book.now.book c.in_ok-problem.problem c.in_ok-problem.ensures)
    (c.in_ok-at.ensures.at ∙ at_same q c.args.moment c.list.result.now c.self.inside.cutoffs waiting cut)
    (c.in_ok-at.ensures.item ∙ item_same q c.args.moment c.list.result.now c.self.inside.cutoffs waiting cut)
