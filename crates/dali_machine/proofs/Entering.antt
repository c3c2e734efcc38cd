use Rattle.std.proofs.Common.{◌≡◌, ℕ, ◌*◌, ◌≤◌, Bool, true, false, cond, ◌||◌, true≢false, List, [], ◌∷◌, Some, is_some, refl, sym, ap, ◌∙◌, arith}
use Rattle.std.specs.Prelude.{unwrap_or}
use Rattle.std.specs.List.{All}
use Rattle.std.proofs.lemmas.List.Elements.{All-tail}
use Rattle.std.proofs.Math.Nat.{mul-le-mul}
use Rattle.dali_account.specs.Book.{cash, price_of}
use Rattle.dali_account.proofs.SumLemmas.{same_name_refl}
use Rattle.dali_line.specs.declared.command.Verb.TheVariants as verbs
use Rattle.dali_line.specs.Grammar.{IsQuantity}
use Rattle.dali_base.specs.declared.kind.Kind.TheVariants as kinds
use Rattle.dali_base.specs.Readers.{same_bytes}
use Rattle.dali_queue.specs.Instruction.{IsAmount}
use Rattle.dali_machine.specs.Machine.{StateRecord}
use Rattle.dali_machine.specs.Kept.{IsMachine}
use Rattle.dali_machine.specs.Refusals.{worth}
use Rattle.dali_machine.specs.Ready.{MayTake, MayEnter}
use Rattle.dali_machine.proofs.Allowed.{dvp_entry, fop_entry, pay_entry}

amount : (n : ℕ) → IsQuantity n → IsAmount n
amount n q = record { from_one = q.least; to_most = q.most }

-- a code that is there has a price of 1 at least
priced : (codes : List (List ℕ × ℕ)) (x : List ℕ) → All (λ c. 1 ≤ c.1) codes → is_some (price_of codes x) ≡ true → 1 ≤ unwrap_or (price_of codes x) 0
priced [] x all there = absurd (true≢false (sym there))
priced (c ∷ cs) x all there = by (same_bytes x c.0) there (priced cs x (All-tail (λ c. 1 ≤ c.1) c cs all))
  where
    by : (b : Bool) → is_some (cond b (Some c.1) (price_of cs x)) ≡ true → (is_some (price_of cs x) ≡ true → 1 ≤ unwrap_or (price_of cs x) 0) → 1 ≤ unwrap_or (cond b (Some c.1) (price_of cs x)) 0
    by true h rest = all 0 c (omega arith)
    by false h rest = rest h

not_cash : (a b : Bool) → a ≡ false → (a || b) ≡ true → b ≡ true
not_cash a b e h = ap (λ t. t || b) (sym e) ∙ h

some_product : (a b : ℕ) → 1 ≤ a → 1 ≤ b → 1 ≤ a * b
some_product a b one two = mul-le-mul one two

pub may_enter_dvp : (s : StateRecord) (id giver taker code : List ℕ) (quantity cash : ℕ) → MayTake s (verbs.Dvp id giver taker code quantity cash) →
    MayEnter s (record { id = id; kind = kinds.Dvp; giver = giver; taker = taker; code = code; quantity = quantity; cash = cash; value = cash; rank = 1 })
may_enter_dvp s id giver taker code quantity cash take =
    let parts = dvp_entry s.machine take.moment id giver taker code quantity cash take.allowed in
    record {
      new = parts.1.new;
      few = parts.1.few;
      item = record {
        parties = parts.1.apart;
        code = parts.0.no_cash;
        quantity = amount quantity take.fields.4;
        cash = amount cash take.fields.5;
        value = amount cash take.fields.5;
        rank_low = omega arith;
        rank_high = omega arith;
      };
      rank = refl;
      known = record { giver = parts.1.giver_known; taker = parts.1.taker_known; code = parts.0.known };
      place = take.place;
    }

pub fop_value : (s : StateRecord) (id giver taker code : List ℕ) (quantity : ℕ) → IsMachine s.machine → MayTake s (verbs.Fop id giver taker code quantity) → IsAmount (worth s.machine code quantity)
fop_value s id giver taker code quantity kept take =
    let parts = fop_entry s.machine take.moment id giver taker code quantity take.allowed in
    let price = priced s.machine.book.codes code kept.prices (not_cash (same_bytes code cash) (is_some (price_of s.machine.book.codes code)) parts.0.no_cash parts.0.known) in
    record { from_one = some_product quantity (unwrap_or (price_of s.machine.book.codes code) 0) take.fields.4.least price; to_most = parts.2 }

pub may_enter_fop : (s : StateRecord) (id giver taker code : List ℕ) (quantity : ℕ) → IsMachine s.machine → MayTake s (verbs.Fop id giver taker code quantity) →
    MayEnter s (record { id = id; kind = kinds.Fop; giver = giver; taker = taker; code = code; quantity = quantity; cash = 0; value = worth s.machine code quantity; rank = 1 })
may_enter_fop s id giver taker code quantity kept take =
    let parts = fop_entry s.machine take.moment id giver taker code quantity take.allowed in
    record {
      new = parts.1.new;
      few = parts.1.few;
      item = record {
        parties = parts.1.apart;
        code = parts.0.no_cash;
        quantity = amount quantity take.fields.4;
        cash = refl;
        value = fop_value s id giver taker code quantity kept take;
        rank_low = omega arith;
        rank_high = omega arith;
      };
      rank = refl;
      known = record { giver = parts.1.giver_known; taker = parts.1.taker_known; code = parts.0.known };
      place = take.place;
    }

pub may_enter_pay : (s : StateRecord) (id giver taker : List ℕ) (paid : ℕ) → MayTake s (verbs.Pay id giver taker paid) →
    MayEnter s (record { id = id; kind = kinds.Pay; giver = giver; taker = taker; code = cash; quantity = paid; cash = 0; value = paid; rank = 1 })
may_enter_pay s id giver taker paid take =
    let entry = pay_entry s.machine take.moment id giver taker paid take.allowed in
    record {
      new = entry.new;
      few = entry.few;
      item = record {
        parties = entry.apart;
        code = same_name_refl cash;
        quantity = amount paid take.fields.3;
        cash = refl;
        value = amount paid take.fields.3;
        rank_low = omega arith;
        rank_high = omega arith;
      };
      rank = refl;
      known = record { giver = entry.giver_known; taker = entry.taker_known; code = refl };
      place = take.place;
    }
