use Rattle.std.proofs.Common.{◌≡◌, ◌≢◌, ℕ, ◌+◌, ◌<◌, ◌≤◌, Bool, true, false, cond, not, ◌||◌, true≢false, List, [], ◌∷◌, length, Option, Some, None, Result, Ok, Err, nat_lt, nat_le, refl, ap, subst, arith}
use Rattle.std.proofs.lemmas.Bool.Decides.{nat_tests}
use Rattle.std.specs.Result.{IsOk}
use Rattle.dali_account.specs.declared.refusal.BookNo.{BookNo}
use Rattle.dali_account.specs.declared.refusal.BookNo.TheVariants as books
use Rattle.dali_account.specs.Book.{cash, has_account, has_asset, knows_pair, balance_of, earmark_of, total_of}
use Rattle.dali_base.specs.Limits.{most_quantity, most_total}
use Rattle.dali_account.specs.Limits.{most_accounts, most_codes}
use Rattle.dali_account.specs.Refusals.{Answers, account_refusal, asset_refusal, issue_refusal, draw_refusal, release_refusal}
use Rattle.dali_queue.specs.Limits.{most_queued, most_linked}
use Rattle.dali_queue.specs.Queue.{is_used, is_queued}
use Rattle.dali_queue.specs.Groups.{same_group, group_size}
use Rattle.dali_base.specs.declared.kind.Kind.{Kind}
use Rattle.dali_base.specs.declared.kind.Kind.TheVariants as kinds
use Rattle.dali_base.specs.Readers.{same_bytes}
use Rattle.dali_line.specs.declared.command.Verb.TheVariants as verbs
use Rattle.dali_machine.specs.Machine.{Machine}
use Rattle.dali_machine.specs.declared.outcome.Code.{Code}
use Rattle.dali_machine.specs.declared.outcome.Code.TheVariants.{There, Full, Name, Total, Short, Cash, SelfDeal, Late, Value, Gone}
use Rattle.dali_machine.specs.Refusals.{first_of, refusal, place_refusal, unknown_parties, unknown_asset, is_full, is_late, worth}

-- where no sentence comes first, none holds
pub none_first : (b : Bool) (code : Code) (more : List (Bool × Code)) → first_of ((b, code) ∷ more) ≡ None → b ≡ false
none_first true code more e = absurd (cc)
none_first false code more e = refl

pub none_after : (b : Bool) (code : Code) (more : List (Bool × Code)) → first_of ((b, code) ∷ more) ≡ None → first_of more ≡ None
none_after true code more e = absurd (cc)
none_after false code more e = e

-- two sentences of a verb that are those of a call of the book
none_of_two : (a b : Bool) (p q : Code) (x y : BookNo) → first_of ((a, p) ∷ (b, q) ∷ []) ≡ None → cond a (Some x) (cond b (Some y) None) ≡ None
none_of_two true b p q x y e = absurd (cc)
none_of_two false true p q x y e = absurd (cc)
none_of_two false false p q x y e = refl

-- a call of the book that has no refusal and doesn't want memory is Ok
pub answered_ok : {T : Type 0} (r : Result T BookNo) (o : Option BookNo) → o ≡ None → Answers o r → r ≢ Err books.OutOfMemory → IsOk r
answered_ok {T} r o none answers some = by r (subst (λ p. Answers p r) none answers) some
  where
    by : (s : Result T BookNo) → Answers None s → s ≢ Err books.OutOfMemory → IsOk s
    by (Ok x) a n = refl
    by (Err x) a n = absurd (n (ap Err a))

pub is_true : (b : Bool) → not b ≡ false → b ≡ true
is_true true e = refl
is_true false e = absurd (true≢false e)

pub left_false : (a b : Bool) → (a || b) ≡ false → a ≡ false
left_false true b e = e
left_false false b e = refl

pub right_false : (a b : Bool) → (a || b) ≡ false → b ≡ false
right_false true b e = absurd (true≢false e)
right_false false b e = e

pub not_above : (a b : ℕ) → nat_lt a b ≡ false → b ≤ a
not_above a b e = grind (arith, nat_tests)

pub below : (a b : ℕ) → nat_le a b ≡ false → b < a
below a b e = grind (arith, nat_tests)

module _ (m : Machine) (t : ℕ) where
  pub part_allowed : (account : List ℕ) → refusal m t (verbs.Part account) ≡ None → account_refusal m.book account ≡ None
  unfolding refusal
  part_allowed account e = none_of_two (has_account m.book.accounts account) (nat_le most_accounts (length m.book.accounts)) There Full books.There books.Full e

  pub part_new : (account : List ℕ) → refusal m t (verbs.Part account) ≡ None → has_account m.book.accounts account ≡ false
  unfolding refusal
  part_new account e = none_first (has_account m.book.accounts account) There ((nat_le most_accounts (length m.book.accounts), Full) ∷ []) e

  pub inst_allowed : (code : List ℕ) (price : ℕ) → refusal m t (verbs.Inst code price) ≡ None → asset_refusal m.book code ≡ None
  unfolding refusal
  inst_allowed code price e = none_of_two (has_asset m.book.codes code) (nat_le most_codes (length m.book.codes)) There Full books.There books.Full e

  pub issue_allowed : (account asset : List ℕ) (n : ℕ) → refusal m t (verbs.Issue account asset n) ≡ None → issue_refusal m.book account asset n ≡ None
  unfolding refusal
  issue_allowed account asset n e = none_of_two (not (knows_pair m.book account asset)) (nat_lt most_total (total_of m.book asset + n)) Name Total books.Name books.Total e

  pub draw_allowed : (account asset : List ℕ) (n : ℕ) → refusal m t (verbs.Draw account asset n) ≡ None → draw_refusal m.book account asset n ≡ None
  unfolding refusal
  draw_allowed account asset n e = none_of_two (not (knows_pair m.book account asset)) (nat_lt (balance_of m.book account asset) n) Name Short books.Name books.Short e

  pub earmark_allowed : (account asset : List ℕ) (n : ℕ) → refusal m t (verbs.Earmark account asset n) ≡ None → draw_refusal m.book account asset n ≡ None
  unfolding refusal
  earmark_allowed account asset n e = none_of_two (not (knows_pair m.book account asset)) (nat_lt (balance_of m.book account asset) n) Name Short books.Name books.Short e

  pub release_allowed : (account asset : List ℕ) (n : ℕ) → refusal m t (verbs.Release account asset n) ≡ None → release_refusal m.book account asset n ≡ None
  unfolding refusal
  release_allowed account asset n e = none_of_two (not (knows_pair m.book account asset)) (nat_lt (earmark_of m.book account asset) n) Name Short books.Name books.Short e

  pub cancel_queued : (id : List ℕ) → refusal m t (verbs.Cancel id) ≡ None → is_queued m.queue.waiting id ≡ true
  unfolding refusal
  cancel_queued id e = is_true (is_queued m.queue.waiting id) (none_first (not (is_queued m.queue.waiting id)) Gone [] e)

  pub rank_queued : (id : List ℕ) (rank : ℕ) → refusal m t (verbs.Rank id rank) ≡ None → is_queued m.queue.waiting id ≡ true
  unfolding refusal
  rank_queued id rank e = is_true (is_queued m.queue.waiting id) (none_first (not (is_queued m.queue.waiting id)) Gone [] e)

  -- what LINK may rely on
  pub record IsLinkable (first second : List ℕ) : Type 0 where
    pub one : is_queued m.queue.waiting first ≡ true
    pub two : is_queued m.queue.waiting second ≡ true
    pub apart : same_group m.queue.waiting first second ≡ false
    pub fits : group_size m.queue.waiting first + group_size m.queue.waiting second ≤ most_linked

  pub linkable : (first second : List ℕ) → refusal m t (verbs.Link first second) ≡ None → IsLinkable first second
  unfolding refusal
  linkable first second e =
      let ws = m.queue.waiting in
      let missing : Bool = not (is_queued ws first) || not (is_queued ws second) in
      let large : Bool = nat_lt most_linked (group_size ws first + group_size ws second) in
      let queued = none_first missing Gone ((same_bytes first second, SelfDeal) ∷ (same_group ws first second, There) ∷ (large, Full) ∷ []) e in
      let rest = none_after missing Gone ((same_bytes first second, SelfDeal) ∷ (same_group ws first second, There) ∷ (large, Full) ∷ []) e in
      let third = none_after (same_bytes first second) SelfDeal ((same_group ws first second, There) ∷ (large, Full) ∷ []) rest in
      let last = none_after (same_group ws first second) There ((large, Full) ∷ []) third in
      record {
        one = is_true (is_queued ws first) (left_false (not (is_queued ws first)) (not (is_queued ws second)) queued);
        two = is_true (is_queued ws second) (right_false (not (is_queued ws first)) (not (is_queued ws second)) queued);
        apart = none_first (same_group ws first second) There ((large, Full) ∷ []) third;
        fits = not_above most_linked (group_size ws first + group_size ws second) (none_first large Full [] last);
      }

  -- what the verbs that enter an instruction may rely on
  pub record IsEntry (id giver taker : List ℕ) : Type 0 where
    pub new : is_used m.queue id ≡ false
    pub giver_known : has_account m.book.accounts giver ≡ true
    pub taker_known : has_account m.book.accounts taker ≡ true
    pub apart : same_bytes giver taker ≡ false
    pub few : length m.queue.waiting < most_queued

  pub record IsDelivery (code : List ℕ) : Type 0 where
    pub known : has_asset m.book.codes code ≡ true
    pub no_cash : same_bytes code cash ≡ false

  abbrev places : Kind → List (Bool × Code)
  places kind = (is_late m kind t, Late) ∷ (is_full m, Full) ∷ []

  few_placed : (kind : Kind) → place_refusal m kind t ≡ None → length m.queue.waiting < most_queued
  few_placed kind e = below most_queued (length m.queue.waiting) (none_first (is_full m) Full [] (none_after (is_late m kind t) Late ((is_full m, Full) ∷ []) e))

  parties_known : (giver taker : List ℕ) → unknown_parties m giver taker ≡ false → (has_account m.book.accounts giver ≡ true) × (has_account m.book.accounts taker ≡ true)
  parties_known giver taker e = (
    is_true (has_account m.book.accounts giver) (left_false (not (has_account m.book.accounts giver)) (not (has_account m.book.accounts taker)) e),
    is_true (has_account m.book.accounts taker) (right_false (not (has_account m.book.accounts giver)) (not (has_account m.book.accounts taker)) e),
  )

  module _ (id giver taker code : List ℕ) where
    -- the sentences of a delivery up to its last ones
    delivery : (more : List (Bool × Code)) → first_of ((is_used m.queue id, There) ∷ (unknown_parties m giver taker || unknown_asset m code, Name) ∷ (same_bytes code cash, Cash) ∷ (same_bytes giver taker, SelfDeal) ∷ more) ≡ None →
        (first_of more ≡ None) × IsDelivery code × ((length m.queue.waiting < most_queued) → IsEntry id giver taker)
    delivery more e =
        let unknown : Bool = unknown_parties m giver taker || unknown_asset m code in
        let two = none_after (is_used m.queue id) There ((unknown, Name) ∷ (same_bytes code cash, Cash) ∷ (same_bytes giver taker, SelfDeal) ∷ more) e in
        let three = none_after unknown Name ((same_bytes code cash, Cash) ∷ (same_bytes giver taker, SelfDeal) ∷ more) two in
        let four = none_after (same_bytes code cash) Cash ((same_bytes giver taker, SelfDeal) ∷ more) three in
        let five = none_after (same_bytes giver taker) SelfDeal more four in
        let known : unknown ≡ false = none_first unknown Name ((same_bytes code cash, Cash) ∷ (same_bytes giver taker, SelfDeal) ∷ more) two in
        let both = parties_known giver taker (left_false (unknown_parties m giver taker) (unknown_asset m code) known) in
        let asset : IsDelivery code = record {
          known = is_true (has_asset m.book.codes code) (right_false (unknown_parties m giver taker) (unknown_asset m code) known);
          no_cash = none_first (same_bytes code cash) Cash ((same_bytes giver taker, SelfDeal) ∷ more) three;
        } in (
          five,
          asset,
          λ few. record {
            new = none_first (is_used m.queue id) There ((unknown, Name) ∷ (same_bytes code cash, Cash) ∷ (same_bytes giver taker, SelfDeal) ∷ more) e;
            giver_known = both.0;
            taker_known = both.1;
            apart = none_first (same_bytes giver taker) SelfDeal more four;
            few = few;
          },
        )

    pub dvp_entry : (quantity amount : ℕ) → refusal m t (verbs.Dvp id giver taker code quantity amount) ≡ None → IsDelivery code × IsEntry id giver taker
    unfolding refusal
    dvp_entry quantity amount e =
        let parts = delivery (places kinds.Dvp) e in
        (parts.1, parts.2 (few_placed kinds.Dvp parts.0))

    pub fop_entry : (quantity : ℕ) → refusal m t (verbs.Fop id giver taker code quantity) ≡ None → IsDelivery code × IsEntry id giver taker × (worth m code quantity ≤ most_quantity)
    unfolding refusal
    fop_entry quantity e =
        let large : Bool = nat_lt most_quantity (worth m code quantity) in
        let parts = delivery ((large, Value) ∷ places kinds.Fop) e in
        let more = none_after large Value (places kinds.Fop) parts.0 in
        (parts.1, parts.2 (few_placed kinds.Fop more), not_above most_quantity (worth m code quantity) (none_first large Value (places kinds.Fop) parts.0))

  pub pay_entry : (id giver taker : List ℕ) (amount : ℕ) → refusal m t (verbs.Pay id giver taker amount) ≡ None → IsEntry id giver taker
  unfolding refusal
  pay_entry id giver taker amount e =
      let own : List (Bool × Code) = (same_bytes giver taker, SelfDeal) ∷ places kinds.Pay in
      let all : List (Bool × Code) = (unknown_parties m giver taker, Name) ∷ own in
      let two = none_after (is_used m.queue id) There all e in
      let three = none_after (unknown_parties m giver taker) Name own two in
      let four = none_after (same_bytes giver taker) SelfDeal (places kinds.Pay) three in
      let both = parties_known giver taker (none_first (unknown_parties m giver taker) Name own two) in
      record {
        new = none_first (is_used m.queue id) There all e;
        giver_known = both.0;
        taker_known = both.1;
        apart = none_first (same_bytes giver taker) SelfDeal (places kinds.Pay) three;
        few = few_placed kinds.Pay four;
      }

  -- verbs that are never refused
  pub cutoff_free : (kind : Kind) (moment : ℕ) → refusal m t (verbs.Cutoff kind moment) ≡ None
  unfolding refusal
  cutoff_free kind moment = refl

  pub cycle_free : (budget : ℕ) → refusal m t (verbs.Cycle budget) ≡ None
  unfolding refusal
  cycle_free budget = refl

  pub queue_free : refusal m t verbs.Queue ≡ None
  unfolding refusal
  queue_free = refl

  pub close_free : refusal m t verbs.Close ≡ None
  unfolding refusal
  close_free = refl
