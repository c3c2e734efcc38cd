use Rattle.std.proofs.Common.{◌≡◌, ◌∙◌, ℕ, ◌<◌, List, length, get_or, ap, arith}
use Rattle.std.proofs.lemmas.List.FromFn.{length-map-range_with_len, get_or-map-range_with_len}
use Rattle.dali_gen.specs.Day.{price, prices}

-- there is a price for each code
pub price_count : (n : ℕ) → length (prices n) ≡ 30
unfolding prices
price_count n = length-map-range_with_len (price n) 0 30

pub price_listed : (n code : ℕ) → code < 30 → get_or (prices n) code 0 ≡ price n code
unfolding prices
price_listed n code few = get_or-map-range_with_len (price n) 0 30 code code 0 few (omega arith)

-- the same of a list that is the prices
pub listed_count : (n : ℕ) (list : List ℕ) → list ≡ prices n → length list ≡ 30
listed_count n list same = ap length same ∙ price_count n

pub listed_price : (n code : ℕ) (list : List ℕ) → list ≡ prices n → code < 30 → get_or list code 0 ≡ price n code
listed_price n code list same few = ap (λ (ps : List ℕ). get_or ps code 0) same ∙ price_listed n code few
