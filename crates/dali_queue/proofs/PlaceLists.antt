use Rattle.std.proofs.Common.{◌≡◌, ℕ, zero, suc, ◌+◌, ◌<◌, ◌≤◌, Bool, true, false, cond, ◌||◌, List, [], ◌∷◌, ◌++◌, length, map, Option, Some, None, refl, sym, ap, ◌∙◌, arith, true≢false, add-one}
use Rattle.std.specs.Prelude.{filter, slice_get}
use Rattle.std.specs.List.{AllPairs, AllByRecursion, list_any}
use Rattle.std.specs.Option.{option_map_or}
use Rattle.std.proofs.lemmas.List.Elements.{All-from_recursion}
use Rattle.std.proofs.lemmas.List.Kept.{AllPairs-cons}
use Rattle.dali_queue.specs.declared.instruction.Instruction.{Instruction}
use Rattle.dali_queue.specs.Queue.{Queued}
use Rattle.dali_queue.specs.NetOf.{items_at}
use Rattle.dali_queue.specs.CycleProblem.{places_from}
use Rattle.dali_queue.specs.Eligible.{ArePlaces}

module _ (t : Queued → Bool) where
  -- one more instruction at the end
  pub places_push : (k : ℕ) (ws : List Queued) (w : Queued) → places_from t k (ws ++ w ∷ []) ≡ places_from t k ws ++ cond (t w) ((k + length ws) ∷ []) []
  places_push k [] w = ap (λ n. cond (t w) (n ∷ []) []) (omega arith)
  places_push k (v ∷ ws) w = by (t v) (places_push (k + 1) ws w ∙ ap (λ n. places_from t (k + 1) ws ++ cond (t w) (n ∷ []) []) (omega arith))
    where
      by : (b : Bool) → places_from t (k + 1) (ws ++ w ∷ []) ≡ places_from t (k + 1) ws ++ cond (t w) ((k + suc (length ws)) ∷ []) [] →
          cond b (k ∷ places_from t (k + 1) (ws ++ w ∷ [])) (places_from t (k + 1) (ws ++ w ∷ [])) ≡ cond b (k ∷ places_from t (k + 1) ws) (places_from t (k + 1) ws) ++ cond (t w) ((k + suc (length ws)) ∷ []) []
      by true rest = ap (λ ps. k ∷ ps) rest
      by false rest = rest

  -- none passes
  pub places_none : (k : ℕ) (ws : List Queued) → AllByRecursion (λ w. t w ≡ false) ws → places_from t k ws ≡ []
  places_none k [] all = refl
  places_none k (w ∷ ws) all = ap (λ b. cond b (k ∷ places_from t (k + 1) ws) (places_from t (k + 1) ws)) all.0 ∙ places_none (k + 1) ws all.1

  -- all places are from k on, and below the end
  places_above : (k j : ℕ) (ws : List Queued) → j < k → AllByRecursion (λ p. j < p) (places_from t k ws)
  places_above k j [] less = tt
  places_above k j (w ∷ ws) less = by (t w) (places_above (k + 1) j ws (omega (arith, less)))
    where
      by : (b : Bool) → AllByRecursion (λ p. j < p) (places_from t (k + 1) ws) → AllByRecursion (λ p. j < p) (cond b (k ∷ places_from t (k + 1) ws) (places_from t (k + 1) ws))
      by true rest = (less, rest)
      by false rest = rest

  places_below : (k n : ℕ) (ws : List Queued) → k + length ws ≤ n → AllByRecursion (λ p. p < n) (places_from t k ws)
  places_below k n [] less = tt
  places_below k n (w ∷ ws) less = by (t w) (places_below (k + 1) n ws (omega (arith, less)))
    where
      by : (b : Bool) → AllByRecursion (λ p. p < n) (places_from t (k + 1) ws) → AllByRecursion (λ p. p < n) (cond b (k ∷ places_from t (k + 1) ws) (places_from t (k + 1) ws))
      by true rest = (omega (arith, less), rest)
      by false rest = rest

  places_rise : (k : ℕ) (ws : List Queued) → AllPairs (λ i j. i < j) (places_from t k ws)
  places_rise k [] = λ i j d less within. absurd (omega (arith, within))
  places_rise k (w ∷ ws) = by (t w) (places_rise (k + 1) ws)
    where
      by : (b : Bool) → AllPairs (λ i j. i < j) (places_from t (k + 1) ws) → AllPairs (λ i j. i < j) (cond b (k ∷ places_from t (k + 1) ws) (places_from t (k + 1) ws))
      by true rest = AllPairs-cons (λ i j. i < j) k (places_from t (k + 1) ws) (All-from_recursion (λ p. k < p) (places_from t (k + 1) ws) (places_above (k + 1) k ws (omega arith))) rest
      by false rest = rest

  places_some : (k : ℕ) (ws : List Queued) → list_any t ws ≡ true → 0 < length (places_from t k ws)
  places_some k [] some = absurd (true≢false (sym some))
  places_some k (w ∷ ws) some = by (t w) refl (places_some (k + 1) ws)
    where
      by : (b : Bool) → t w ≡ b → (list_any t ws ≡ true → 0 < length (places_from t (k + 1) ws)) → 0 < length (cond b (k ∷ places_from t (k + 1) ws) (places_from t (k + 1) ws))
      by true told rest = omega arith
      by false told rest = rest (sym (ap (λ b. b || list_any t ws) told) ∙ some)

  pub places_are : (ws : List Queued) → list_any t ws ≡ true → ArePlaces ws (places_from t 0 ws)
  places_are ws some = record {
    some = places_some 0 ws some;
    rising = places_rise 0 ws;
    in_range = All-from_recursion (λ p. p < length ws) (places_from t 0 ws) (places_below 0 (length ws) ws (omega arith));
  }

  -- the instructions at the places of those that pass
  shifted : (v : Queued) (ws : List Queued) (k : ℕ) (us : List Queued) → items_at (v ∷ ws) (places_from t (k + 1) us) ≡ items_at ws (places_from t k us)
  shifted v ws k [] = refl
  shifted v ws k (u ∷ us) = by (t u) (shifted v ws (k + 1) us)
    where
      by : (b : Bool) → items_at (v ∷ ws) (places_from t (k + 1 + 1) us) ≡ items_at ws (places_from t (k + 1) us) →
          items_at (v ∷ ws) (cond b ((k + 1) ∷ places_from t (k + 1 + 1) us) (places_from t (k + 1 + 1) us)) ≡ items_at ws (cond b (k ∷ places_from t (k + 1) us) (places_from t (k + 1) us))
      by true rest = ap (λ o. option_map_or (λ (w : Queued). w.item ∷ items_at (v ∷ ws) (places_from t (k + 1 + 1) us)) o (items_at (v ∷ ws) (places_from t (k + 1 + 1) us))) (ap (slice_get (v ∷ ws)) (add-one k))
          ∙ ap (λ (is : List Instruction). option_map_or (λ (w : Queued). w.item ∷ is) (slice_get ws k) is) rest
      by false rest = rest

  pub items_placed : (ws : List Queued) → items_at ws (places_from t 0 ws) ≡ map (λ (w : Queued). w.item) (filter t ws)
  items_placed [] = refl
  items_placed (w ∷ ws) = by (t w) (shifted w ws 0 ws ∙ items_placed ws)
    where
      by : (b : Bool) → items_at (w ∷ ws) (places_from t (0 + 1) ws) ≡ map (λ (v : Queued). v.item) (filter t ws) →
          items_at (w ∷ ws) (cond b (0 ∷ places_from t (0 + 1) ws) (places_from t (0 + 1) ws)) ≡ map (λ (v : Queued). v.item) (cond b (w ∷ filter t ws) (filter t ws))
      by true rest = ap (λ is. w.item ∷ is) rest
      by false rest = rest

-- two tests that agree
pub places_agree : (s t : Queued → Bool) → ((w : Queued) → s w ≡ t w) → (k : ℕ) (ws : List Queued) → places_from s k ws ≡ places_from t k ws
places_agree s t same k [] = refl
places_agree s t same k (w ∷ ws) = ap (λ ps. cond (s w) (k ∷ ps) ps) (places_agree s t same (k + 1) ws) ∙ ap (λ b. cond b (k ∷ places_from t (k + 1) ws) (places_from t (k + 1) ws)) (same w)

-- more places
pub items_append : (ws : List Queued) (ps qs : List ℕ) → items_at ws (ps ++ qs) ≡ items_at ws ps ++ items_at ws qs
items_append ws [] qs = refl
items_append ws (p ∷ ps) qs = by (slice_get ws p) (items_append ws ps qs)
  where
    by : (o : Option Queued) → items_at ws (ps ++ qs) ≡ items_at ws ps ++ items_at ws qs →
        option_map_or (λ (w : Queued). w.item ∷ items_at ws (ps ++ qs)) o (items_at ws (ps ++ qs)) ≡ option_map_or (λ (w : Queued). w.item ∷ items_at ws ps) o (items_at ws ps) ++ items_at ws qs
    by None rest = rest
    by (Some w) rest = ap (λ is. w.item ∷ is) rest

pub items_few : (ws : List Queued) (ps : List ℕ) → length (items_at ws ps) ≤ length ps
items_few ws [] = omega arith
items_few ws (p ∷ ps) = by (slice_get ws p) (items_few ws ps)
  where
    by : (o : Option Queued) → length (items_at ws ps) ≤ length ps → length (option_map_or (λ (w : Queued). w.item ∷ items_at ws ps) o (items_at ws ps)) ≤ suc (length ps)
    by None rest = omega (arith, rest)
    by (Some w) rest = omega (arith, rest)

abbrev IfFound : (Instruction → Type 0) → Option Queued → Type 0
IfFound P None = Unit {0}
IfFound P (Some w) = P w.item

found : (P : Instruction → Type 0) (ws : List Queued) (k : ℕ) → AllByRecursion (λ (w : Queued). P w.item) ws → IfFound P (slice_get ws k)
found P [] k all = tt
found P (w ∷ ws) zero all = all.0
found P (w ∷ ws) (suc k) all = found P ws k all.1

pub items_all : (P : Instruction → Type 0) (ws : List Queued) (ps : List ℕ) → AllByRecursion (λ (w : Queued). P w.item) ws → AllByRecursion P (items_at ws ps)
items_all P ws [] all = tt
items_all P ws (p ∷ ps) all = by (slice_get ws p) (found P ws p all) (items_all P ws ps all)
  where
    by : (o : Option Queued) → IfFound P o → AllByRecursion P (items_at ws ps) → AllByRecursion P (option_map_or (λ (w : Queued). w.item ∷ items_at ws ps) o (items_at ws ps))
    by None h rest = rest
    by (Some w) h rest = (h, rest)
