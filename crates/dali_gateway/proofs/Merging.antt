use Rattle.std.proofs.Common.{◌≡◌, ◌∙◌, ℕ, ◌+◌, ◌-◌, Bool, true, false, cond, eqb, zero, suc, inl, inr, List, [], ◌∷◌, ◌++◌, length, take, drop, get_or, map, refl, sym, ap, arith, append_assoc}
use Rattle.std.proofs.lemmas.Bool.{cases_eq, eq-eqb, ne_eqb}
use Rattle.std.proofs.lemmas.List.{get_or-set_other}
use Rattle.std.proofs.lemmas.List.Elements.{All-cons, All-nil, All-take, All-head, All-tail, All-set, All-filter, All-drop, filter_passes}
use Rattle.std.proofs.lemmas.List.Sums.{sum_by-cons}
use Rattle.std.specs.List.{All, slice_split, onto_first, count_by}
use Rattle.std.specs.Str.Lines.{lines_of_parts, strip_carriage_return}
use Rattle.dali_line.specs.Commands.{is_command, commands}
use Rattle.dali_line.specs.Open.{InOneLine}
use Rattle.dali_gateway.specs.Merge.{first_text, queue_of, after_turn, merged, merge}
use Rattle.dali_gateway.specs.Order.{giver, giving, givers, share, sent, KeepsOrder}
use Rattle.dali_gateway.proofs.Cutting.{IsCommand, read_back}

-- Each command of some bytes is in one line, and is read again from the merge.

parts_in_line : (bytes : List ℕ) → All InOneLine (slice_split (λ b. eqb b 10) bytes)
parts_in_line [] = All-cons InOneLine [] [] (All-nil (λ b. eqb b 10 ≡ false)) (All-nil InOneLine)
parts_in_line (b ∷ bytes) = by_byte (eqb b 10) refl (parts_in_line bytes) where
  onto : (parts : List (List ℕ)) → eqb b 10 ≡ false → All InOneLine parts → All InOneLine (onto_first b parts)
  onto [] other each = All-cons InOneLine (b ∷ []) [] (All-cons (λ x. eqb x 10 ≡ false) b [] other (All-nil (λ x. eqb x 10 ≡ false))) (All-nil InOneLine)
  onto (part ∷ parts) other each =
      All-cons InOneLine (b ∷ part) parts (All-cons (λ x. eqb x 10 ≡ false) b part other (All-head InOneLine part parts each)) (All-tail InOneLine part parts each)

  by_byte : (t : Bool) → eqb b 10 ≡ t → All InOneLine (slice_split (λ x. eqb x 10) bytes) → All InOneLine (cond t ([] ∷ slice_split (λ x. eqb x 10) bytes) (onto_first b (slice_split (λ x. eqb x 10) bytes)))
  by_byte true is each = All-cons InOneLine [] (slice_split (λ x. eqb x 10) bytes) (All-nil (λ x. eqb x 10 ≡ false)) each
  by_byte false is each = onto (slice_split (λ x. eqb x 10) bytes) is each

strip_in_line : (line : List ℕ) → InOneLine line → InOneLine (strip_carriage_return line)
strip_in_line line one = by_last (eqb (get_or line (length line - 1) 0) 13) where
  by_last : (t : Bool) → InOneLine (cond t (take (length line - 1) line) line)
  by_last true = All-take (λ x. eqb x 10 ≡ false) (length line - 1) line one
  by_last false = one

lines_in_line : (parts : List (List ℕ)) → All InOneLine parts → All InOneLine (lines_of_parts parts)
lines_in_line [] each = each
lines_in_line (part ∷ []) each = by_length (eqb (length part) 0) where
  by_length : (t : Bool) → All InOneLine (cond t [] (part ∷ []))
  by_length true = All-nil InOneLine
  by_length false = each
lines_in_line (part ∷ (next ∷ more)) each =
    All-cons InOneLine (strip_carriage_return part) (lines_of_parts (next ∷ more)) (strip_in_line part (All-head InOneLine part (next ∷ more) each))
    (lines_in_line (next ∷ more) (All-tail InOneLine part (next ∷ more) each))

pub are_commands : (bytes : List ℕ) → All IsCommand (commands bytes)
are_commands bytes = both (commands bytes)
    (All-filter is_command InOneLine (lines_of_parts (slice_split (λ b. eqb b 10) bytes)) (lines_in_line (slice_split (λ b. eqb b 10) bytes) (parts_in_line bytes)))
    (filter_passes is_command (lines_of_parts (slice_split (λ b. eqb b 10) bytes))) where
      both : (cs : List (List ℕ)) → All InOneLine cs → All (λ c. is_command c ≡ true) cs → All IsCommand cs
      both [] one begins = All-nil IsCommand
      both (c ∷ cs) one begins =
          All-cons IsCommand c cs (record { one = All-head InOneLine c cs one; begins = All-head (λ c. is_command c ≡ true) c cs begins })
          (both cs (All-tail InOneLine c cs one) (All-tail (λ c. is_command c ≡ true) c cs begins))

-- queues of such commands
abbrev pub AreQueues : List (List (List ℕ)) → Type 0
AreQueues queues = All (All IsCommand) queues

pub queues_of : (inboxes : List (List ℕ)) → AreQueues (map commands inboxes)
queues_of [] = All-nil (All IsCommand)
queues_of (inbox ∷ inboxes) = All-cons (All IsCommand) (commands inbox) (map commands inboxes) (are_commands inbox) (queues_of inboxes)

queue_is : (queues : List (List (List ℕ))) (turn : ℕ) → AreQueues queues → All IsCommand (queue_of queues turn)
queue_is [] turn each = All-nil IsCommand
queue_is (q ∷ queues) zero each = All-head (All IsCommand) q queues each
queue_is (q ∷ queues) (suc turn) each = queue_is queues turn (All-tail (All IsCommand) q queues each)

after_is : (queues : List (List (List ℕ))) (turn : ℕ) → AreQueues queues → AreQueues (after_turn queues turn)
after_is queues turn each = All-set (All IsCommand) queues turn (drop 1 (queue_of queues turn)) (All-drop IsCommand 1 (queue_of queues turn) (queue_is queues turn each)) each

-- what one turn gives
abbrev pub first_of : List (List ℕ) → List (List ℕ)
first_of [] = []
first_of (command ∷ queue) = command ∷ []

-- the commands that the turns give
abbrev pub given : List (List (List ℕ)) → List ℕ → List (List ℕ)
given queues [] = []
given queues (turn ∷ turns) = first_of (queue_of queues turn) ++ given (after_turn queues turn) turns

first_read : (queue : List (List ℕ)) (rest : List ℕ) → All IsCommand queue → commands (first_text queue ++ rest) ≡ first_of queue ++ commands rest
first_read [] rest are = refl
first_read (command ∷ queue) rest are = read_back command rest (All-head IsCommand command queue are)

-- they are the commands of the merge
pub merged_commands : (queues : List (List (List ℕ))) (turns : List ℕ) → AreQueues queues → commands (merged queues turns) ≡ given queues turns
merged_commands queues [] are = refl
merged_commands queues (turn ∷ turns) are =
    first_read (queue_of queues turn) (merged (after_turn queues turn) turns) (queue_is queues turn are)
    ∙ ap (λ (cs : List (List ℕ)). first_of (queue_of queues turn) ++ cs) (merged_commands (after_turn queues turn) turns (after_is queues turn are))

-- the queue of an inbox behind a turn
after_same : (queues : List (List (List ℕ))) (turn : ℕ) → queue_of (after_turn queues turn) turn ≡ drop 1 (queue_of queues turn)
after_same [] turn = refl
after_same (q ∷ queues) zero = refl
after_same (q ∷ queues) (suc turn) = after_same queues turn

after_other : (queues : List (List (List ℕ))) (turn inbox : ℕ) → (inbox ≡ turn → ⊥) → queue_of (after_turn queues turn) inbox ≡ queue_of queues inbox
after_other queues turn inbox other = get_or-set_other queues turn inbox (drop 1 (queue_of queues turn)) [] other

-- how many turns an inbox has
abbrev pub turns_of : ℕ → List ℕ → ℕ
turns_of inbox turns = count_by (λ turn. eqb turn inbox) turns

turns_more : (inbox turn : ℕ) (turns : List ℕ) → turns_of inbox (turn ∷ turns) ≡ cond (eqb turn inbox) 1 0 + turns_of inbox turns
turns_more inbox turn turns = sum_by-cons (λ t. cond (eqb t inbox) 1 0) turn turns

abbrev if_own : ℕ → ℕ → List ℕ → List (List ℕ) → List (List ℕ)
if_own turn inbox line rest = cond (eqb turn inbox) (line ∷ rest) rest

-- one turn, by the queue that it finds
own_turn : (inbox turn n : ℕ) (givers : List ℕ) (lines queue after : List (List ℕ)) → turn ≡ inbox → after ≡ drop 1 queue →
    share inbox givers lines ≡ take n after →
    share inbox (giver turn queue ++ givers) (first_of queue ++ lines) ≡ take (suc n) queue
own_turn inbox turn n givers lines [] after own is before = before ∙ ap (take n) is ∙ none n where
  none : (n : ℕ) → take {A = List ℕ} n [] ≡ []
  none zero = refl
  none (suc n) = refl
own_turn inbox turn n givers lines (command ∷ queue) after own is before =
    ap (λ (t : Bool). cond t (command ∷ share inbox givers lines) (share inbox givers lines)) (eq-eqb turn inbox own)
    ∙ ap (λ (ls : List (List ℕ)). command ∷ ls) (before ∙ ap (take n) is)

other_turn : (inbox turn n : ℕ) (givers : List ℕ) (lines queue after own : List (List ℕ)) → (turn ≡ inbox → ⊥) → after ≡ own →
    share inbox givers lines ≡ take n after →
    share inbox (giver turn queue ++ givers) (first_of queue ++ lines) ≡ take n own
other_turn inbox turn n givers lines [] after own other is before = before ∙ ap (take n) is
other_turn inbox turn n givers lines (command ∷ queue) after own other is before =
    ap (λ (t : Bool). cond t (command ∷ share inbox givers lines) (share inbox givers lines)) (ne_eqb turn inbox other)
    ∙ before ∙ ap (take n) is

-- an inbox gives its first commands, one a turn
pub shares : (inbox : ℕ) (queues : List (List (List ℕ))) (turns : List ℕ) →
    share inbox (giving queues turns) (given queues turns) ≡ take (turns_of inbox turns) (queue_of queues inbox)
shares inbox queues [] = refl
shares inbox queues (turn ∷ turns) = elim (cases_eq turn inbox) [
  | inl own ↦
      own_turn inbox turn (turns_of inbox turns) (giving (after_turn queues turn) turns) (given (after_turn queues turn) turns) (queue_of queues turn) (queue_of (after_turn queues turn) inbox) own
      (ap (λ (i : ℕ). queue_of (after_turn queues turn) i) (sym own) ∙ after_same queues turn) (shares inbox (after_turn queues turn) turns)
      ∙ ap (λ (i : ℕ). take (suc (turns_of inbox turns)) (queue_of queues i)) own
      ∙ ap (λ (n : ℕ). take n (queue_of queues inbox)) (sym (one_more own))
  | inr other ↦
      other_turn inbox turn (turns_of inbox turns) (giving (after_turn queues turn) turns) (given (after_turn queues turn) turns) (queue_of queues turn) (queue_of (after_turn queues turn) inbox) (queue_of queues inbox) other
      (after_other queues turn inbox (λ same. other (sym same))) (shares inbox (after_turn queues turn) turns)
      ∙ ap (λ (n : ℕ). take n (queue_of queues inbox)) (sym (no_more other))
] where
  one_more : turn ≡ inbox → turns_of inbox (turn ∷ turns) ≡ suc (turns_of inbox turns)
  one_more own =
      let test : eqb turn inbox ≡ true = eq-eqb turn inbox own in
      let counted : turns_of inbox (turn ∷ turns) ≡ 1 + turns_of inbox turns = turns_more inbox turn turns ∙ ap (λ (t : Bool). cond t 1 0 + turns_of inbox turns) test in
      omega (arith, counted)

  no_more : (turn ≡ inbox → ⊥) → turns_of inbox (turn ∷ turns) ≡ turns_of inbox turns
  no_more other =
      let test : eqb turn inbox ≡ false = ne_eqb turn inbox other in
      let counted : turns_of inbox (turn ∷ turns) ≡ 0 + turns_of inbox turns = turns_more inbox turn turns ∙ ap (λ (t : Bool). cond t 1 0 + turns_of inbox turns) test in
      omega (arith, counted)

first_each : (turn : ℕ) (queue lines : List (List ℕ)) (givers : List ℕ) → length givers ≡ length lines → length (giver turn queue ++ givers) ≡ length (first_of queue ++ lines)
first_each turn [] lines givers same = same
first_each turn (command ∷ queue) lines givers same = omega (arith, same)

pub each_given : (queues : List (List (List ℕ))) (turns : List ℕ) → length (giving queues turns) ≡ length (given queues turns)
each_given queues [] = refl
each_given queues (turn ∷ turns) =
    first_each turn (queue_of queues turn) (given (after_turn queues turn) turns) (giving (after_turn queues turn) turns) (each_given (after_turn queues turn) turns)

-- of a front an inbox has a front
pub share_front : (inbox n : ℕ) (givers : List ℕ) (lines : List (List ℕ)) → (more : List (List ℕ)) × (share inbox givers lines ≡ share inbox givers (take n lines) ++ more)
share_front inbox n [] lines = ([], refl)
share_front inbox zero (giver ∷ givers) [] = ([], refl)
share_front inbox (suc n) (giver ∷ givers) [] = ([], refl)
share_front inbox zero (giver ∷ givers) (line ∷ lines) = (share inbox (giver ∷ givers) (line ∷ lines), refl)
share_front inbox (suc n) (giver ∷ givers) (line ∷ lines) =
    let front = share_front inbox n givers lines in (front.0, by_giver (eqb giver inbox) front.0 front.1) where
      by_giver : (t : Bool) (more : List (List ℕ)) → share inbox givers lines ≡ share inbox givers (take n lines) ++ more →
          cond t (line ∷ share inbox givers lines) (share inbox givers lines) ≡ cond t (line ∷ share inbox givers (take n lines)) (share inbox givers (take n lines)) ++ more
      by_giver true more is = ap (λ (ls : List (List ℕ)). line ∷ ls) is
      by_giver false more is = is

queue_sent : (inboxes : List (List ℕ)) (inbox : ℕ) → queue_of (map commands inboxes) inbox ≡ sent inboxes inbox
queue_sent [] inbox = refl
queue_sent (bytes ∷ inboxes) zero = refl
queue_sent (bytes ∷ inboxes) (suc inbox) = queue_sent inboxes inbox

take_drop : (n : ℕ) (xs : List (List ℕ)) → xs ≡ take n xs ++ drop n xs
take_drop zero xs = refl
take_drop (suc n) [] = refl
take_drop (suc n) (x ∷ xs) = ap (λ (ys : List (List ℕ)). x ∷ ys) (take_drop n xs)

-- the merge keeps the order of each inbox
pub keeps_order : (inboxes : List (List ℕ)) (turns : List ℕ) → KeepsOrder inboxes turns
keeps_order inboxes turns = record { each = each; whole = whole; fronts = fronts } where
  read : commands (merge inboxes turns) ≡ given (map commands inboxes) turns
  read = merged_commands (map commands inboxes) turns (queues_of inboxes)

  each : length (givers inboxes turns) ≡ length (commands (merge inboxes turns))
  each = each_given (map commands inboxes) turns ∙ ap length (sym read)

  whole : (inbox : ℕ) → share inbox (givers inboxes turns) (commands (merge inboxes turns)) ≡ take (turns_of inbox turns) (sent inboxes inbox)
  whole inbox =
      ap (share inbox (givers inboxes turns)) read ∙ shares inbox (map commands inboxes) turns ∙ ap (take (turns_of inbox turns)) (queue_sent inboxes inbox)

  fronts : (inbox n : ℕ) → (more : List (List ℕ)) × (sent inboxes inbox ≡ share inbox (givers inboxes turns) (take n (commands (merge inboxes turns))) ++ more)
  fronts inbox n =
      let front = share_front inbox n (givers inboxes turns) (commands (merge inboxes turns)) in
      let behind = drop (turns_of inbox turns) (sent inboxes inbox) in (
        front.0 ++ behind,
        take_drop (turns_of inbox turns) (sent inboxes inbox)
            ∙ ap (λ (cs : List (List ℕ)). cs ++ behind) (sym (whole inbox) ∙ front.1)
            ∙ append_assoc (share inbox (givers inboxes turns) (take n (commands (merge inboxes turns)))) front.0 behind,
      )
