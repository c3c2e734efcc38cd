use Rattle.std.specs.Prelude.{ℕ, ◌+◌, ◌-◌, Bool, ◌&&◌, ◌||◌, List, [], ◌∷◌, sum_by, Option, is_some, refl}
use Rattle.std.specs.List.{list_any}
use Rattle.std.specs.Map.{lookup}
use Rattle.std.specs.Coded.{Coded, code_by, coded×, coded_ℕ, coded_list, coded_option}
use Rattle.dali_base.specs.Readers.{same_bytes}
use Rattle.dali_account.specs.Units.{Units, units_code, units_of, with_units}

-- a book: accounts and codes with their prices, in order of entry, and two finite maps from pairs (account, asset)
pub record BookRecord : Type 0 where
  pub accounts : List (List ℕ)
  pub codes : List (List ℕ × ℕ)
  pub balances : Units
  pub earmarks : Units

-- a book, the number of new pairs in either map for which there is room, and the readied names
pub record BookState : Type 0 where
  pub book : BookRecord
  pub spare_lines : ℕ
  pub readied_account : Option (List ℕ)
  pub readied_code : Option (List ℕ)

abbrev pub book_code : Coded BookRecord
book_code = code_by ((List (List ℕ) × List (List ℕ × ℕ)) × (Units × Units))
    (coded× (coded× (coded_list (coded_list coded_ℕ)) (coded_list (coded× (coded_list coded_ℕ) coded_ℕ))) (coded× units_code units_code))
    (λ b. ((b.accounts, b.codes), (b.balances, b.earmarks)))
    (λ p. record { accounts = p.0.0; codes = p.0.1; balances = p.1.0; earmarks = p.1.1 })
    (λ _. refl)

abbrev pub state_code : Coded BookState
state_code = code_by ((BookRecord × ℕ) × (Option (List ℕ) × Option (List ℕ)))
    (coded× (coded× book_code coded_ℕ) (coded× (coded_option (coded_list coded_ℕ)) (coded_option (coded_list coded_ℕ))))
    (λ s. ((s.book, s.spare_lines), (s.readied_account, s.readied_code)))
    (λ p. record { book = p.0.0; spare_lines = p.0.1; readied_account = p.1.0; readied_code = p.1.1 })
    (λ _. refl)

-- the asset of cash, MXN, which isn't among the codes
abbrev pub cash : List ℕ
cash = 77 ∷ 88 ∷ 78 ∷ []

abbrev pub has_account : List (List ℕ) → List ℕ → Bool
has_account accounts account = list_any (same_bytes account) accounts

abbrev pub price_of : List (List ℕ × ℕ) → List ℕ → Option ℕ
price_of codes code = lookup (same_bytes code) codes

-- a code, or cash
abbrev pub has_asset : List (List ℕ × ℕ) → List ℕ → Bool
has_asset codes asset = same_bytes asset cash || is_some (price_of codes asset)

-- the units of an asset that these accounts hold, free and earmarked
abbrev pub held : List (List ℕ) → Units → Units → List ℕ → ℕ
held accounts balances earmarks asset = sum_by (λ account. units_of balances (account, asset) + units_of earmarks (account, asset)) accounts

abbrev pub balance_of : BookRecord → List ℕ → List ℕ → ℕ
balance_of b account asset = units_of b.balances (account, asset)

abbrev pub earmark_of : BookRecord → List ℕ → List ℕ → ℕ
earmark_of b account asset = units_of b.earmarks (account, asset)

-- the total of an asset: its balances and earmarks over all accounts
abbrev pub total_of : BookRecord → List ℕ → ℕ
total_of b asset = held b.accounts b.balances b.earmarks asset

-- the account and the asset exist
abbrev pub knows_pair : BookRecord → List ℕ → List ℕ → Bool
knows_pair b account asset = has_account b.accounts account && has_asset b.codes asset

-- the book with these numbers at the pair
abbrev pub with_pair : BookRecord → List ℕ → List ℕ → ℕ → ℕ → BookRecord
with_pair b account asset balance earmark = record b {
  balances = with_units b.balances (account, asset) balance;
  earmarks = with_units b.earmarks (account, asset) earmark;
}

abbrev pub issued : BookRecord → List ℕ → List ℕ → ℕ → BookRecord
issued b account asset n = with_pair b account asset (balance_of b account asset + n) (earmark_of b account asset)

abbrev pub drawn : BookRecord → List ℕ → List ℕ → ℕ → BookRecord
drawn b account asset n = with_pair b account asset (balance_of b account asset - n) (earmark_of b account asset)

abbrev pub after_earmark : BookRecord → List ℕ → List ℕ → ℕ → BookRecord
after_earmark b account asset n = with_pair b account asset (balance_of b account asset - n) (earmark_of b account asset + n)

abbrev pub after_release : BookRecord → List ℕ → List ℕ → ℕ → BookRecord
after_release b account asset n = with_pair b account asset (balance_of b account asset + n) (earmark_of b account asset - n)
