use Rattle.std.proofs.Common.{◌≡◌, ◌≢◌, ℕ, pos, List, [], ◌∷◌, Option, Some, None, refl, ap, ◌∙◌}
use Rattle.std.specs.Prelude.{slice_get, Result, Ok, Err, IfOk}
use Rattle.std.specs.Option.{option_map, option_map_or}
use Rattle.std.specs.List.Sorted.{IsStrictlySortedBy}
use Rattle.std.proofs.lemmas.List.Elements.{All-nil}
use Rattle.dali_account.specs.declared.net.Move.{Move}
use Rattle.dali_account.specs.Net.{IsNet}
use Rattle.dali_queue.proofs.NetItems.{net_of_is}
use Rattle.dali_queue.proofs.NetLemmas.{one_net}
use Rattle.dali_line.specs.declared.command.Verb.TheVariants as verbs
use Rattle.dali_queue.specs.declared.instruction.Instruction.{Instruction}
use Rattle.dali_queue.specs.NetOf.{items_at, net_of}
use Rattle.dali_queue.specs.Queue.{Queued, item_of, place_in}
use Rattle.dali_machine.specs.Machine.{Machine}
use Rattle.dali_machine.specs.Effects.{net_for}
use Rattle.dali_machine.proofs.Placing.{at_place}

no_net : IsNet []
unfolding IsStrictlySortedBy
no_net = record { rising = tt; moves = All-nil (λ (m : Move). m.delta ≢ pos 0) }

none_net : net_of [] ≡ []
none_net = one_net (net_of []) [] (net_of_is []).ordered no_net (λ p. (net_of_is []).deltas p)

-- the net of the instruction at a place, if there is one
alone_at : (o : Option Queued) (i : Option Instruction) → option_map (λ w. w.item) o ≡ i → net_of (option_map_or (λ (w : Queued). w.item ∷ []) o []) ≡ option_map_or (λ j. net_of (j ∷ [])) i []
alone_at None None e = none_net
alone_at None (Some i) e = absurd (cc)
alone_at (Some w) None e = absurd (cc)
alone_at (Some w) (Some i) e = ap (λ (o : Option Instruction). option_map_or (λ j. net_of (j ∷ [])) o []) e

netted : {E : Type 0} (r : Result (List Move) E) (net : List Move) (ms : List Move) → net ≡ ms → IfOk r (λ made. made ≡ net) → IfOk r (λ made. made ≡ ms)
netted (Ok made) net ms is made_is = made_is ∙ is
netted (Err e) net ms is made_is = tt

pub net_made : {E : Type 0} (r : Result (List Move) E) (m : Machine) (id : List ℕ) (place : ℕ) (ps : List ℕ) → ps ≡ place ∷ [] → place_in m.queue.waiting id ≡ Some place →
    IfOk r (λ made. made ≡ net_of (items_at m.queue.waiting ps)) → IfOk r (λ made. made ≡ net_for m (verbs.Settle id))
unfolding net_for
net_made r m id place ps is found made = netted r (net_of (items_at m.queue.waiting ps)) (option_map_or (λ j. net_of (j ∷ [])) (item_of m.queue.waiting id) [])
    (ap (λ qs. net_of (items_at m.queue.waiting qs)) is ∙ alone_at (slice_get m.queue.waiting place) (item_of m.queue.waiting id) (at_place m.queue.waiting id place found)) made
