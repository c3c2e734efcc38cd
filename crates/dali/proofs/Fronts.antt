-- Fronts of a piece that a writer got.
use Rattle.std.proofs.Common.{◌≡◌, ℕ, ◌+◌, ◌-◌, ◌≤◌, List, ◌++◌, Option, None, Some, length, take, drop, sym, subst, ap, ◌∙◌, append_assoc, arith}
use Rattle.std.proofs.lemmas.List.{take_rest, length-drop}
use Rattle.std.proofs.Math.Seq.{take-add}
use Rattle.std.specs.Io.KnownBytes.{Appends, Keeps}

appends-more : (a b c : Option (List ℕ)) (xs ys : List ℕ) → Appends a b xs → Appends b c ys → Appends a c (xs ++ ys)
appends-more None b c xs ys p q = tt
appends-more (Some x) None c xs ys p q = absurd p
appends-more (Some x) (Some y) None xs ys p q = absurd q
appends-more (Some x) (Some y) (Some z) xs ys p q = q ∙ ap (λ l. l ++ ys) p ∙ append_assoc x xs ys

front_more : (a b c : Option (List ℕ)) (xs : List ℕ) (n m : ℕ) → Appends a b (take n xs) → Appends b c (take m (drop n xs)) → Appends a c (take (n + m) xs)
front_more a b c xs n m p q = subst (Appends a c) (sym (take-add n m xs)) (appends-more a b c _ _ p q)

front_kept : (a b c : Option (List ℕ)) (xs : List ℕ) → Appends a b xs → Keeps b c → Appends a c xs
front_kept None b c xs p q = tt
front_kept (Some x) None c xs p q = absurd p
front_kept (Some x) (Some y) None xs p q = absurd q
front_kept (Some x) (Some y) (Some z) xs p q = q ∙ p

-- after the first bytes of a piece, some first bytes of its rest
pub front_step : (a b c : Option (List ℕ)) (xs : List ℕ) (n m after : ℕ) → after ≡ n + m → n ≤ length xs
    → m ≤ length (take (length xs - n) (drop n xs)) → Appends a b (take n xs) → Appends b c (take m (take (length xs - n) (drop n xs)))
    → (after ≤ length xs) × Appends a c (take after xs)
front_step a b c xs n m after is within fits p q =
    let short : m ≤ length xs - n = subst (λ k. m ≤ k) (ap length (take_rest xs n) ∙ length-drop n xs) fits in
    let whole : Appends a c (take (n + m) xs) = front_more a b c xs n m p (subst (λ l. Appends b c (take m l)) (take_rest xs n) q) in
    (omega (arith, short, within, is), subst (λ k. Appends a c (take k xs)) (sym is) whole)

-- nothing more
pub front_stays : (a b c : Option (List ℕ)) (xs : List ℕ) (n after : ℕ) → after ≡ n → n ≤ length xs → Appends a b (take n xs) → Keeps b c
    → (after ≤ length xs) × Appends a c (take after xs)
front_stays a b c xs n after is within p q = (subst (λ k. k ≤ length xs) (sym is) within, subst (λ k. Appends a c (take k xs)) (sym is) (front_kept a b c _ p q))
