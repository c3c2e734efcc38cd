use Rattle.std.proofs.Common.{◌≡◌, ℕ, ◌≤◌, List, [], map, length, sym, ap, ◌∙◌, subst}
use Rattle.std.specs.Prelude.{filter, unwrap_or}
use Rattle.std.specs.List.{All}
use Rattle.dali_base.specs.NameList.{place_of}
use Rattle.dali_account.specs.Book.{BookRecord}
use Rattle.dali_problem.specs.Clearing.{Clearing}
use Rattle.dali_queue.specs.declared.cutoffs.Cutoffs.{Cutoffs}
use Rattle.dali_queue.specs.declared.draft.Draft.{Draft}
use Rattle.dali_queue.specs.declared.entries.Entry.{Entry}
use Rattle.dali_queue.specs.Queue.{Queued, QueueRecord}
use Rattle.dali_queue.specs.Groups.{in_group}
use Rattle.dali_queue.specs.Limits.{IsQueue}
use Rattle.dali_queue.specs.NetOf.{net_of, items_at}
use Rattle.dali_queue.specs.CycleProblem.{may_settle, groups_at, places_from, memberships, changed_by, problem_of, input_of}
use Rattle.dali_queue.specs.Drafts.{draft_of, drafted_pairs, item_of_draft, drafted, AreItems}
use Rattle.dali_queue.specs.Eligible.{ArePlaces, waiting_of, queue_with}
use Rattle.dali_queue.proofs.ProblemFits.{cycle_lines, cycle_items, cycle_places, drafts_are, nets_drafted, items_drafted, problem_drafted}

abbrev with_parts : List Queued → Cutoffs → QueueRecord
with_parts ws cutoffs = record { waiting = ws; used = []; cutoffs = cutoffs }

-- a cycle depends on the queued instructions and the cut-offs alone
module _ (q : QueueRecord) (t : ℕ) (es : List Entry) (cutoffs : Cutoffs) (waiting : waiting_of es ≡ q.waiting) (cut : cutoffs ≡ q.cutoffs) where
  pub at_same : places_from (may_settle (queue_with es cutoffs) t) 0 (waiting_of es) ≡ places_from (may_settle q t) 0 q.waiting
  at_same = ap (λ ws. places_from (may_settle (with_parts ws cutoffs) t) 0 ws) waiting ∙ ap (λ k. places_from (may_settle (with_parts q.waiting k) t) 0 q.waiting) cut

  pub item_same : map (λ (w : Queued). unwrap_or (place_of (groups_at (queue_with es cutoffs) t) w.group) 0) (filter (may_settle (queue_with es cutoffs) t) (waiting_of es))
      ≡ map (λ (w : Queued). unwrap_or (place_of (groups_at q t) w.group) 0) (filter (may_settle q t) q.waiting)
  item_same = ap (λ ws. map (λ (w : Queued). unwrap_or (place_of (groups_at (with_parts ws cutoffs) t) w.group) 0) (filter (may_settle (with_parts ws cutoffs) t) ws)) waiting
      ∙ ap (λ k. map (λ (w : Queued). unwrap_or (place_of (groups_at (with_parts q.waiting k) t) w.group) 0) (filter (may_settle (with_parts q.waiting k) t) q.waiting)) cut

  pub members_same : map (λ g. places_from (in_group g) 0 (waiting_of es)) (groups_at (queue_with es cutoffs) t) ≡ map (λ g. places_from (in_group g) 0 q.waiting) (groups_at q t)
  members_same = ap (λ ws. map (λ g. places_from (in_group g) 0 ws) (groups_at (with_parts ws cutoffs) t)) waiting
      ∙ ap (λ k. map (λ g. places_from (in_group g) 0 q.waiting) (groups_at (with_parts q.waiting k) t)) cut

-- what is drafted for a cycle
module _ (q : QueueRecord) (t : ℕ) (members : List (List ℕ)) (are : members ≡ map (λ g. places_from (in_group g) 0 q.waiting) (groups_at q t)) where
  pub members_places : IsQueue q → All (ArePlaces q.waiting) members
  members_places kept = subst (λ pss. All (ArePlaces q.waiting) pss) (sym are) (cycle_places q t kept)

  module _ (ds : List Draft) (made : ds ≡ map (λ places. draft_of (items_at q.waiting places)) members) where
    all_drafted : ds ≡ map draft_of (memberships q t)
    all_drafted = made ∙ ap (map (λ places. draft_of (items_at q.waiting places))) are ∙ drafts_are q.waiting (groups_at q t)

    pairs_drafted : drafted_pairs ds ≡ changed_by (map net_of (memberships q t))
    pairs_drafted = ap drafted_pairs all_drafted ∙ ap changed_by (nets_drafted (memberships q t))

    pub drafted_lines : IsQueue q → length (drafted_pairs ds) ≤ 4096
    drafted_lines kept = subst (λ ps. length ps ≤ 4096) (sym pairs_drafted) (cycle_lines q t kept)

    pub drafted_items : IsQueue q → AreItems (length (drafted_pairs ds)) (map (item_of_draft (drafted_pairs ds)) ds)
    drafted_items kept = subst (λ ps. AreItems (length ps) (map (item_of_draft ps) ds)) (sym pairs_drafted)
        (subst (AreItems (length (changed_by (map net_of (memberships q t)))))
        (sym (ap (map (item_of_draft (changed_by (map net_of (memberships q t))))) all_drafted ∙ items_drafted (changed_by (map net_of (memberships q t))) (memberships q t)))
        (cycle_items q t kept))

    pub drafted_problem : (book : BookRecord) (p : Clearing) → p ≡ drafted book ds → p ≡ problem_of book q t
    drafted_problem book p is = is ∙ ap (drafted book) all_drafted ∙ problem_drafted book q t

pub input_made : (book : BookRecord) (q : QueueRecord) (t : ℕ) (p : Clearing) (at item : List ℕ) → p ≡ problem_of book q t → at ≡ places_from (may_settle q t) 0 q.waiting →
    item ≡ map (λ (w : Queued). unwrap_or (place_of (groups_at q t) w.group) 0) (filter (may_settle q t) q.waiting) → record { problem = p; at = at; item = item } ≡ input_of book q t
unfolding input_of
input_made book q t p at item one two three = λ i. record { problem = one i; at = two i; item = three i }
