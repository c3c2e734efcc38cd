use Rattle.std.proofs.Common.{◌≡◌, ◌<◌, List, ◌++◌, [], ◌∷◌, false, cond, length, ◌∙◌, ap, sym, subst}
use Rattle.dali_queue.specs.Queue.{Queued, QueueState, is_used, is_queued}
use Rattle.dali_queue.specs.Groups.{EntersAlone}
use Rattle.dali_queue.proofs.GroupLemmas.{enters_alone}
use Rattle.dali_queue.proofs.QueueLemmas.{queue_entered, new_not_queued}
use Rattle.dali_queue.specs.Kept.{queue_of}
use Rattle.dali_queue.proofs.queue.Queue.enter.Goals as goal

pub enter-requires-clause-new : goal.enter-requires-clause-new
enter-requires-clause-new c = ap (λ ws. is_queued ws c.args.item.id) c.reserve.ensures.waiting
    ∙ new_not_queued (queue_of c.self.inside) c.args.item.id c.self.invariant (ap (λ (s : QueueState). is_used s.queue c.args.item.id) c.self.view_is ∙ c.requires.new)

pub invariant_of-self-2 : goal.invariant_of-self-2
invariant_of-self-2 c =
    let new : is_used (queue_of c.self.inside) c.args.item.id ≡ false = ap (λ (s : QueueState). is_used s.queue c.args.item.id) c.self.view_is ∙ c.requires.new in
    let few : length (queue_of c.self.inside).waiting < 1024 = subst (λ (s : QueueState). length s.queue.waiting < 1024) (sym c.self.view_is) c.requires.few in
    let waiting : c.enter.new.self.waiting ≡ c.self.inside.entries.waiting ++ record { item = c.args.item; group = c.args.item.id } ∷ [] =
    c.enter.ensures.waiting ∙ ap (λ ws. ws ++ record { item = c.args.item; group = c.args.item.id } ∷ []) c.reserve.ensures.waiting in
    let used : c.insert.new.self.keys ≡ c.self.inside.used.keys ++ c.args.item.id ∷ [] =
    c.in_ok-insert.ensures.keys ∙ ap (λ b. cond b c.self.inside.used.keys (c.self.inside.used.keys ++ c.args.item.id ∷ [])) new in
    rw (waiting, used) (queue_entered (queue_of c.self.inside) c.args.item c.self.invariant c.requires.item few new)

pub returns-clause-alone : goal.returns-clause-alone
returns-clause-alone c =
    let new : is_used (queue_of c.self.inside) c.args.item.id ≡ false = ap (λ (s : QueueState). is_used s.queue c.args.item.id) c.self.view_is ∙ c.requires.new in
    let waiting : c.self.inside.entries.waiting ++ record { item = c.args.item; group = c.args.item.id } ∷ [] ≡ c.enter.new.self.waiting =
    sym (c.enter.ensures.waiting ∙ ap (λ ws. ws ++ record { item = c.args.item; group = c.args.item.id } ∷ []) c.reserve.ensures.waiting) in
    subst (λ (s : QueueState). EntersAlone s.queue.waiting c.enter.new.self.waiting c.args.item.id) c.self.view_is
    (subst (λ (ws : List Queued). EntersAlone c.self.inside.entries.waiting ws c.args.item.id) waiting
    (enters_alone (queue_of c.self.inside) c.args.item c.self.invariant new))
