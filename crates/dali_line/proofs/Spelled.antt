use Rattle.std.proofs.Common.{◌≡◌, ◌∙◌, ℕ, true, Some, None, List, [], ◌∷◌, refl, sym, ap, subst}
use Rattle.std.specs.Prelude.{codes, decimal}
use Rattle.dali_base.specs.Spelling.{moment_digits}
use Rattle.dali_base.specs.Readers.{same_bytes, spelled_name, spelled_moment}
use Rattle.dali_base.proofs.Spelled.{same_then, name_spelled, moment_spelled}
use Rattle.dali_base.specs.Limits.{most_quantity, most_price, most_budget, most_rank}
use Rattle.dali_line.specs.declared.command.Verb.{Verb}
use Rattle.dali_line.specs.declared.command.Verb.TheVariants.{Part, Inst, Issue, Draw, Dvp, Fop, Pay, Cancel, Settle, Cutoff, Cycle, Queue, Close, Stat, Ledger, Earmark, Release, Link, Rank}
use Rattle.dali_line.specs.Grammar.{pieces_of, IsQuantity, IsName, HasFields}
use Rattle.dali_line.specs.Reading.{spelled_within, spelled_kind, spelled_alone, named_verb, spelled_cycle, spelled_with_one, spelled_inst, spelled_cutoff, spelled_link, spelled_rank, spelled_with_two, holding_verb, spelled_with_three, spelled_with_four, spelled_with_five, spelled_with_six, spelled_verb}
use Rattle.dali_line.proofs.Steps.{bind_some, by_word, no_word, some_same, within_spelled, kind_spelled}

-- What is read is in the grammar: the pieces are those of the verb, whose fields are in range.

pub record IsOf (ps : List (List ℕ)) (v : Verb) : Type 0 where
  pub pieces : pieces_of v ≡ ps
  pub fields : HasFields v

-- a verb whose word is this one
pub is_of : (w word : List ℕ) (fields : List (List ℕ)) (x v : Verb) → same_bytes w word ≡ true → Some x ≡ Some v →
    pieces_of x ≡ word ∷ fields → HasFields x → IsOf (w ∷ fields) v
is_of w word fields x v told same pieces ranges = record {
  pieces = ap pieces_of (sym (some_same same)) ∙ pieces ∙ ap (λ p. p ∷ fields) (sym (same_then w word told));
  fields = subst HasFields (some_same same) ranges;
}

pub alone_spelled : (w : List ℕ) (v : Verb) → spelled_alone w ≡ Some v → IsOf (w ∷ []) v
unfolding spelled_alone
alone_spelled w v told =
    by_word (IsOf (w ∷ []) v) (same_bytes w (codes "QUEUE")) (Some (Queue)) _ v told
    (λ t is. is_of w (codes "QUEUE") ([]) (Queue) v t is refl tt)
    (λ rest0. by_word (IsOf (w ∷ []) v) (same_bytes w (codes "CLOSE")) (Some (Close)) _ v rest0
    (λ t is. is_of w (codes "CLOSE") ([]) (Close) v t is refl tt)
    (λ rest1. no_word (IsOf (w ∷ []) v) v rest1))

named_spelled : (w a : List ℕ) (v : Verb) → IsName a → named_verb w a ≡ Some v → IsOf (w ∷ a ∷ []) v
unfolding named_verb
named_spelled w a v name told =
    by_word (IsOf (w ∷ a ∷ []) v) (same_bytes w (codes "PART")) (Some (Part a)) _ v told
    (λ t is. is_of w (codes "PART") (a ∷ []) (Part a) v t is refl name)
    (λ rest0. by_word (IsOf (w ∷ a ∷ []) v) (same_bytes w (codes "CANCEL")) (Some (Cancel a)) _ v rest0
    (λ t is. is_of w (codes "CANCEL") (a ∷ []) (Cancel a) v t is refl name)
    (λ rest1. by_word (IsOf (w ∷ a ∷ []) v) (same_bytes w (codes "SETTLE")) (Some (Settle a)) _ v rest1
    (λ t is. is_of w (codes "SETTLE") (a ∷ []) (Settle a) v t is refl name)
    (λ rest2. by_word (IsOf (w ∷ a ∷ []) v) (same_bytes w (codes "STAT")) (Some (Stat a)) _ v rest2
    (λ t is. is_of w (codes "STAT") (a ∷ []) (Stat a) v t is refl name)
    (λ rest3. by_word (IsOf (w ∷ a ∷ []) v) (same_bytes w (codes "LEDGER")) (Some (Ledger a)) _ v rest3
    (λ t is. is_of w (codes "LEDGER") (a ∷ []) (Ledger a) v t is refl name)
    (λ rest4. no_word (IsOf (w ∷ a ∷ []) v) v rest4)))))

pub one_spelled : (w a : List ℕ) (v : Verb) → spelled_with_one w a ≡ Some v → IsOf (w ∷ a ∷ []) v
unfolding spelled_with_one
one_spelled w a v told =
    by_word (IsOf (w ∷ a ∷ []) v) (same_bytes w (codes "CYCLE")) (spelled_cycle a) _ v told
    (λ t cycle.
    let budget = bind_some _ (spelled_within 0 most_budget a) v cycle in
    let number = within_spelled 0 most_budget a budget.0 budget.1 in
    is_of w (codes "CYCLE") (a ∷ []) (Cycle budget.0) v t budget.2 (ap (λ d. codes "CYCLE" ∷ d ∷ []) (sym number.1)) number.0)
    (λ rest.
    let name = bind_some (named_verb w) (spelled_name a) v rest in
    let is = name_spelled a name.0 name.1 in
    named_spelled w a v is.0 (ap (named_verb w) (sym is.1) ∙ name.2))

inst_spelled : (w a b : List ℕ) (v : Verb) → same_bytes w (codes "INST") ≡ true → spelled_inst a b ≡ Some v → IsOf (w ∷ a ∷ b ∷ []) v
inst_spelled w a b v t told =
    let code = bind_some _ (spelled_name a) v told in
    let price = bind_some _ (spelled_within 1 most_price b) v code.2 in
    let first = name_spelled a code.0 code.1 in
    let second = within_spelled 1 most_price b price.0 price.1 in
    is_of w (codes "INST") (a ∷ b ∷ []) (Inst code.0 price.0) v t price.2
    (ap (λ x. codes "INST" ∷ x ∷ decimal price.0 ∷ []) first.1 ∙ ap (λ d. codes "INST" ∷ a ∷ d ∷ []) (sym second.1))
    (subst IsName (sym first.1) first.0, second.0)

cutoff_spelled : (w a b : List ℕ) (v : Verb) → same_bytes w (codes "CUTOFF") ≡ true → spelled_cutoff a b ≡ Some v → IsOf (w ∷ a ∷ b ∷ []) v
cutoff_spelled w a b v t told =
    let kind = bind_some _ (spelled_kind a) v told in
    let moment = bind_some _ (spelled_moment b) v kind.2 in
    let second = moment_spelled b moment.0 moment.1 in
    is_of w (codes "CUTOFF") (a ∷ b ∷ []) (Cutoff kind.0 moment.0) v t moment.2
    (ap (λ x. codes "CUTOFF" ∷ x ∷ moment_digits moment.0 ∷ []) (sym (kind_spelled a kind.0 kind.1)) ∙ ap (λ d. codes "CUTOFF" ∷ a ∷ d ∷ []) (sym second.1))
    second.0

link_spelled : (w a b : List ℕ) (v : Verb) → same_bytes w (codes "LINK") ≡ true → spelled_link a b ≡ Some v → IsOf (w ∷ a ∷ b ∷ []) v
link_spelled w a b v t told =
    let first = bind_some _ (spelled_name a) v told in
    let second = bind_some _ (spelled_name b) v first.2 in
    let one = name_spelled a first.0 first.1 in
    let two = name_spelled b second.0 second.1 in
    is_of w (codes "LINK") (a ∷ b ∷ []) (Link first.0 second.0) v t second.2
    (ap (λ x. codes "LINK" ∷ x ∷ second.0 ∷ []) one.1 ∙ ap (λ x. codes "LINK" ∷ a ∷ x ∷ []) two.1)
    (subst IsName (sym one.1) one.0, subst IsName (sym two.1) two.0)

rank_spelled : (w a b : List ℕ) (v : Verb) → same_bytes w (codes "RANK") ≡ true → spelled_rank a b ≡ Some v → IsOf (w ∷ a ∷ b ∷ []) v
rank_spelled w a b v t told =
    let id = bind_some _ (spelled_name a) v told in
    let rank = bind_some _ (spelled_within 1 most_rank b) v id.2 in
    let one = name_spelled a id.0 id.1 in
    let two = within_spelled 1 most_rank b rank.0 rank.1 in
    is_of w (codes "RANK") (a ∷ b ∷ []) (Rank id.0 rank.0) v t rank.2
    (ap (λ x. codes "RANK" ∷ x ∷ decimal rank.0 ∷ []) one.1 ∙ ap (λ d. codes "RANK" ∷ a ∷ d ∷ []) (sym two.1))
    (subst IsName (sym one.1) one.0, two.0)

pub two_spelled : (w a b : List ℕ) (v : Verb) → spelled_with_two w a b ≡ Some v → IsOf (w ∷ a ∷ b ∷ []) v
unfolding spelled_with_two
two_spelled w a b v told =
    by_word (IsOf (w ∷ a ∷ b ∷ []) v) (same_bytes w (codes "INST")) (spelled_inst a b) _ v told (λ t is. inst_spelled w a b v t is)
    (λ rest. by_word (IsOf (w ∷ a ∷ b ∷ []) v) (same_bytes w (codes "CUTOFF")) (spelled_cutoff a b) _ v rest (λ t is. cutoff_spelled w a b v t is)
    (λ rest1. by_word (IsOf (w ∷ a ∷ b ∷ []) v) (same_bytes w (codes "LINK")) (spelled_link a b) _ v rest1 (λ t is. link_spelled w a b v t is)
    (λ rest2. by_word (IsOf (w ∷ a ∷ b ∷ []) v) (same_bytes w (codes "RANK")) (spelled_rank a b) _ v rest2 (λ t is. rank_spelled w a b v t is)
    (λ none. no_word (IsOf (w ∷ a ∷ b ∷ []) v) v none))))

holding_spelled : (w a s : List ℕ) (n : ℕ) (v : Verb) → IsName a → IsName s → IsQuantity n → holding_verb w a s n ≡ Some v → IsOf (w ∷ a ∷ s ∷ decimal n ∷ []) v
unfolding holding_verb
holding_spelled w a s n v account asset quantity told =
    by_word (IsOf (w ∷ a ∷ s ∷ decimal n ∷ []) v) (same_bytes w (codes "ISSUE")) (Some (Issue a s n)) _ v told
    (λ t is. is_of w (codes "ISSUE") (a ∷ s ∷ decimal n ∷ []) (Issue a s n) v t is refl (account, asset, quantity))
    (λ rest0. by_word (IsOf (w ∷ a ∷ s ∷ decimal n ∷ []) v) (same_bytes w (codes "DRAW")) (Some (Draw a s n)) _ v rest0
    (λ t is. is_of w (codes "DRAW") (a ∷ s ∷ decimal n ∷ []) (Draw a s n) v t is refl (account, asset, quantity))
    (λ rest1. by_word (IsOf (w ∷ a ∷ s ∷ decimal n ∷ []) v) (same_bytes w (codes "EARMARK")) (Some (Earmark a s n)) _ v rest1
    (λ t is. is_of w (codes "EARMARK") (a ∷ s ∷ decimal n ∷ []) (Earmark a s n) v t is refl (account, asset, quantity))
    (λ rest2. by_word (IsOf (w ∷ a ∷ s ∷ decimal n ∷ []) v) (same_bytes w (codes "RELEASE")) (Some (Release a s n)) _ v rest2
    (λ t is. is_of w (codes "RELEASE") (a ∷ s ∷ decimal n ∷ []) (Release a s n) v t is refl (account, asset, quantity))
    (λ rest3. no_word (IsOf (w ∷ a ∷ s ∷ decimal n ∷ []) v) v rest3))))

pub three_spelled : (w a b c : List ℕ) (v : Verb) → spelled_with_three w a b c ≡ Some v → IsOf (w ∷ a ∷ b ∷ c ∷ []) v
unfolding spelled_with_three
three_spelled w a b c v told =
    let account = bind_some _ (spelled_name a) v told in
    let asset = bind_some _ (spelled_name b) v account.2 in
    let quantity = bind_some _ (spelled_within 1 most_quantity c) v asset.2 in
    let one = name_spelled a account.0 account.1 in
    let two = name_spelled b asset.0 asset.1 in
    let three = within_spelled 1 most_quantity c quantity.0 quantity.1 in
    let same : holding_verb w a b quantity.0 ≡ Some v =
    ap (λ x. holding_verb w x b quantity.0) (sym one.1) ∙ ap (λ x. holding_verb w account.0 x quantity.0) (sym two.1) ∙ quantity.2 in
    subst (λ d. IsOf (w ∷ a ∷ b ∷ d ∷ []) v) (sym three.1) (holding_spelled w a b quantity.0 v one.0 two.0 three.0 same)

pub four_spelled : (w a b c d : List ℕ) (v : Verb) → spelled_with_four w a b c d ≡ Some v → IsOf (w ∷ a ∷ b ∷ c ∷ d ∷ []) v
unfolding spelled_with_four
four_spelled w a b c d v told =
    by_word (IsOf (w ∷ a ∷ b ∷ c ∷ d ∷ []) v) (same_bytes w (codes "PAY")) _ None v told
    (λ t pay.
    let id = bind_some _ (spelled_name a) v pay in
    let from = bind_some _ (spelled_name b) v id.2 in
    let to = bind_some _ (spelled_name c) v from.2 in
    let cash = bind_some _ (spelled_within 1 most_quantity d) v to.2 in
    let one = name_spelled a id.0 id.1 in
    let two = name_spelled b from.0 from.1 in
    let three = name_spelled c to.0 to.1 in
    let four = within_spelled 1 most_quantity d cash.0 cash.1 in
    is_of w (codes "PAY") (a ∷ b ∷ c ∷ d ∷ []) (Pay id.0 from.0 to.0 cash.0) v t cash.2
    (ap (λ x. codes "PAY" ∷ x ∷ from.0 ∷ to.0 ∷ decimal cash.0 ∷ []) one.1 ∙ ap (λ x. codes "PAY" ∷ a ∷ x ∷ to.0 ∷ decimal cash.0 ∷ []) two.1
    ∙ ap (λ x. codes "PAY" ∷ a ∷ b ∷ x ∷ decimal cash.0 ∷ []) three.1 ∙ ap (λ x. codes "PAY" ∷ a ∷ b ∷ c ∷ x ∷ []) (sym four.1))
    (subst IsName (sym one.1) one.0, subst IsName (sym two.1) two.0, subst IsName (sym three.1) three.0, four.0))
    (λ none. no_word (IsOf (w ∷ a ∷ b ∷ c ∷ d ∷ []) v) v none)

pub five_spelled : (w a b c d e : List ℕ) (v : Verb) → spelled_with_five w a b c d e ≡ Some v → IsOf (w ∷ a ∷ b ∷ c ∷ d ∷ e ∷ []) v
unfolding spelled_with_five
five_spelled w a b c d e v told =
    by_word (IsOf (w ∷ a ∷ b ∷ c ∷ d ∷ e ∷ []) v) (same_bytes w (codes "FOP")) _ None v told
    (λ t fop.
    let id = bind_some _ (spelled_name a) v fop in
    let from = bind_some _ (spelled_name b) v id.2 in
    let to = bind_some _ (spelled_name c) v from.2 in
    let code = bind_some _ (spelled_name d) v to.2 in
    let quantity = bind_some _ (spelled_within 1 most_quantity e) v code.2 in
    let one = name_spelled a id.0 id.1 in
    let two = name_spelled b from.0 from.1 in
    let three = name_spelled c to.0 to.1 in
    let four = name_spelled d code.0 code.1 in
    let five = within_spelled 1 most_quantity e quantity.0 quantity.1 in
    is_of w (codes "FOP") (a ∷ b ∷ c ∷ d ∷ e ∷ []) (Fop id.0 from.0 to.0 code.0 quantity.0) v t quantity.2
    (ap (λ x. codes "FOP" ∷ x ∷ from.0 ∷ to.0 ∷ code.0 ∷ decimal quantity.0 ∷ []) one.1 ∙ ap (λ x. codes "FOP" ∷ a ∷ x ∷ to.0 ∷ code.0 ∷ decimal quantity.0 ∷ []) two.1
    ∙ ap (λ x. codes "FOP" ∷ a ∷ b ∷ x ∷ code.0 ∷ decimal quantity.0 ∷ []) three.1 ∙ ap (λ x. codes "FOP" ∷ a ∷ b ∷ c ∷ x ∷ decimal quantity.0 ∷ []) four.1
    ∙ ap (λ x. codes "FOP" ∷ a ∷ b ∷ c ∷ d ∷ x ∷ []) (sym five.1))
    (subst IsName (sym one.1) one.0, subst IsName (sym two.1) two.0, subst IsName (sym three.1) three.0, subst IsName (sym four.1) four.0, five.0))
    (λ none. no_word (IsOf (w ∷ a ∷ b ∷ c ∷ d ∷ e ∷ []) v) v none)

pub six_spelled : (w a b c d e f : List ℕ) (v : Verb) → spelled_with_six w a b c d e f ≡ Some v → IsOf (w ∷ a ∷ b ∷ c ∷ d ∷ e ∷ f ∷ []) v
unfolding spelled_with_six
six_spelled w a b c d e f v told =
    by_word (IsOf (w ∷ a ∷ b ∷ c ∷ d ∷ e ∷ f ∷ []) v) (same_bytes w (codes "DVP")) _ None v told
    (λ t dvp.
    let id = bind_some _ (spelled_name a) v dvp in
    let seller = bind_some _ (spelled_name b) v id.2 in
    let buyer = bind_some _ (spelled_name c) v seller.2 in
    let code = bind_some _ (spelled_name d) v buyer.2 in
    let quantity = bind_some _ (spelled_within 1 most_quantity e) v code.2 in
    let cash = bind_some _ (spelled_within 1 most_quantity f) v quantity.2 in
    let one = name_spelled a id.0 id.1 in
    let two = name_spelled b seller.0 seller.1 in
    let three = name_spelled c buyer.0 buyer.1 in
    let four = name_spelled d code.0 code.1 in
    let five = within_spelled 1 most_quantity e quantity.0 quantity.1 in
    let six = within_spelled 1 most_quantity f cash.0 cash.1 in
    is_of w (codes "DVP") (a ∷ b ∷ c ∷ d ∷ e ∷ f ∷ []) (Dvp id.0 seller.0 buyer.0 code.0 quantity.0 cash.0) v t cash.2
    (ap (λ x. codes "DVP" ∷ x ∷ seller.0 ∷ buyer.0 ∷ code.0 ∷ decimal quantity.0 ∷ decimal cash.0 ∷ []) one.1
    ∙ ap (λ x. codes "DVP" ∷ a ∷ x ∷ buyer.0 ∷ code.0 ∷ decimal quantity.0 ∷ decimal cash.0 ∷ []) two.1
    ∙ ap (λ x. codes "DVP" ∷ a ∷ b ∷ x ∷ code.0 ∷ decimal quantity.0 ∷ decimal cash.0 ∷ []) three.1
    ∙ ap (λ x. codes "DVP" ∷ a ∷ b ∷ c ∷ x ∷ decimal quantity.0 ∷ decimal cash.0 ∷ []) four.1
    ∙ ap (λ x. codes "DVP" ∷ a ∷ b ∷ c ∷ d ∷ x ∷ decimal cash.0 ∷ []) (sym five.1)
    ∙ ap (λ x. codes "DVP" ∷ a ∷ b ∷ c ∷ d ∷ e ∷ x ∷ []) (sym six.1))
    (subst IsName (sym one.1) one.0, subst IsName (sym two.1) two.0, subst IsName (sym three.1) three.0, subst IsName (sym four.1) four.0, five.0, six.0))
    (λ none. no_word (IsOf (w ∷ a ∷ b ∷ c ∷ d ∷ e ∷ f ∷ []) v) v none)

pub verb_spelled : (ps : List (List ℕ)) (v : Verb) → spelled_verb ps ≡ Some v → IsOf ps v
unfolding spelled_verb
verb_spelled [] v told = no_word (IsOf [] v) v told
verb_spelled (w ∷ []) v told = alone_spelled w v told
verb_spelled (w ∷ a ∷ []) v told = one_spelled w a v told
verb_spelled (w ∷ a ∷ b ∷ []) v told = two_spelled w a b v told
verb_spelled (w ∷ a ∷ b ∷ c ∷ []) v told = three_spelled w a b c v told
verb_spelled (w ∷ a ∷ b ∷ c ∷ d ∷ []) v told = four_spelled w a b c d v told
verb_spelled (w ∷ a ∷ b ∷ c ∷ d ∷ e ∷ []) v told = five_spelled w a b c d e v told
verb_spelled (w ∷ a ∷ b ∷ c ∷ d ∷ e ∷ f ∷ []) v told = six_spelled w a b c d e f v told
verb_spelled (w ∷ a ∷ b ∷ c ∷ d ∷ e ∷ f ∷ g ∷ more) v told = no_word (IsOf (w ∷ a ∷ b ∷ c ∷ d ∷ e ∷ f ∷ g ∷ more) v) v told
