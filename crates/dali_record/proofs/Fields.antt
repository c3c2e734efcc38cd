-- A field that is read is the field that was written, and what was written is read again.
use Rattle.std.proofs.Common.{◌≡◌, ◌⊎◌, inl, inr, ℕ, zero, suc, ◌+◌, ◌^◌, ◌<◌, ◌≤◌, Bool, true, false, cond, ltb, List, [], ◌∷◌, ◌++◌, length, get_or, take, drop, Option, Some, None, refl, sym, ap, subst, ◌∙◌, append_assoc, arith}
use Rattle.std.specs.List.{flat_map, AllByRecursion}
use Rattle.std.specs.Int.{Width, w16, w64, byte_len, from_be_bytes, to_be_bytes}
use Rattle.std.proofs.lemmas.Bool.{cases_lt, ltb-false, le-ltb}
use Rattle.std.proofs.lemmas.List.{take_at, drop_at, take-append-drop, length-append, length-take, get_or-drop, get_or-take, get_or_past}
use Rattle.std.proofs.lemmas.List.Concat.{flat_map-cons}
use Rattle.std.proofs.lemmas.Nat.{be_bytes_2, be_bytes_8, from_be_bytes-to_be_bytes_2, from_be_bytes-to_be_bytes_8}
use Rattle.dali_record.specs.TreeText.{list_text, two_bytes}
use Rattle.dali_record.specs.Reading.{◌>>=◌, number_at, items_at, list_at}

abbrev pub IsBytes : List ℕ → Type 0
IsBytes bytes = (i : ℕ) → get_or bytes i 0 < 256

IsBytes-drop : (n : ℕ) (bytes : List ℕ) → IsBytes bytes → IsBytes (drop n bytes)
IsBytes-drop n bytes h i = rw get_or-drop (h (n + i))

IsBytes-take : (n : ℕ) (bytes : List ℕ) → IsBytes bytes → IsBytes (take n bytes)
IsBytes-take n bytes h i =
    elim (cases_lt i n) [
      | inl lt ↦ rw (get_or-take n bytes i 0 lt) (h i)
      | inr le ↦ rw (get_or_past (take n bytes) i 0 (omega (arith, length-take n bytes))) (omega arith)
    ]

pub IsBytes-rest : (b : ℕ) (bytes : List ℕ) → IsBytes (b ∷ bytes) → IsBytes bytes
IsBytes-rest b bytes h i = h (suc i)

-- the value of a step that found one
pub bind_some : {A B : Type 0} (o : Option A) (f : A → Option B) (y : B) → (o >>= f) ≡ Some y → (x : A) × (o ≡ Some x) × (f x ≡ Some y)
bind_some (Some x) f y e = (x, refl, e)
bind_some None f y e = absurd cc

-- a test that let pass
pub guard_some : {A : Type 0} (b : Bool) (x y : A) → cond b None (Some x) ≡ Some y → (b ≡ false) × (x ≡ y)
guard_some true x y e = absurd cc
guard_some false x y e = (refl, cc)

-- which way a test went
pub chosen : {A : Type 0} (b : Bool) (x y z : A) → cond b x y ≡ z → ((b ≡ true) × (x ≡ z)) ⊎ ((b ≡ false) × (y ≡ z))
chosen true x y z e = inl (refl, e)
chosen false x y z e = inr (refl, e)

pub some_is : {A : Type 0} (x y : A) → Some x ≡ Some y → x ≡ y
some_is x y e = cc

-- what a reader took from the front
pub record Takes (bytes text rest : List ℕ) : Type 0 where
  pub parts : bytes ≡ text ++ rest
  pub rest_fits : IsBytes rest

pub Takes-then : (a x b y c : List ℕ) → Takes a x b → Takes b y c → Takes a (x ++ y) c
Takes-then a x b y c p q = record { parts = p.parts ∙ ap (λ (t : List ℕ). x ++ t) q.parts ∙ sym (append_assoc x y c); rest_fits = q.rest_fits }

pub Takes-behind : (b : ℕ) (bytes text rest : List ℕ) → Takes bytes text rest → Takes (b ∷ bytes) (b ∷ text) rest
Takes-behind b bytes text rest t = record { parts = ap (λ (x : List ℕ). b ∷ x) t.parts; rest_fits = t.rest_fits }

-- ---- numbers

pub record IsWide (w : Width) (limit : ℕ) : Type 0 where
  pub len : (n : ℕ) → length (to_be_bytes w n) ≡ byte_len w
  pub back : (bytes : List ℕ) → length bytes ≡ byte_len w → IsBytes bytes → to_be_bytes w (from_be_bytes w bytes) ≡ bytes
  pub again : (n : ℕ) → n < limit → from_be_bytes w (to_be_bytes w n) ≡ n
  pub below : (bytes : List ℕ) → IsBytes bytes → from_be_bytes w bytes < limit

pub wide16 : IsWide w16 (2 ^ 16)
wide16 = record {
  len = λ n. refl;
  back = λ bytes len fits. be_bytes_2 bytes _ len fits refl;
  again = λ n lt. from_be_bytes-to_be_bytes_2 n lt;
  below = λ bytes fits. omega (arith, fits 0, fits 1);
}

pub wide64 : IsWide w64 (2 ^ 64)
wide64 = record {
  len = λ n. refl;
  back = λ bytes len fits. be_bytes_8 bytes _ len fits refl;
  again = λ n lt. from_be_bytes-to_be_bytes_8 n lt;
  below = λ bytes fits. omega (arith, fits 0, fits 1, fits 2, fits 3, fits 4, fits 5, fits 6, fits 7);
}

number_takes : (w : Width) (limit : ℕ) (wide : IsWide w limit) (bytes : List ℕ) (n : ℕ) (rest : List ℕ) → IsBytes bytes → number_at w bytes ≡ Some (n, rest) → Takes bytes (to_be_bytes w n) rest × (n < limit)
number_takes w limit wide bytes n rest fits e =
    let g = guard_some (ltb (length bytes) (byte_len w)) (from_be_bytes w (take (byte_len w) bytes), drop (byte_len w) bytes) (n, rest) e in
    let long : byte_len w ≤ length bytes = ltb-false _ _ g.0 in
    let n-is : from_be_bytes w (take (byte_len w) bytes) ≡ n = ap (λ (p : ℕ × List ℕ). p.0) g.1 in
    let rest-is : drop (byte_len w) bytes ≡ rest = ap (λ (p : ℕ × List ℕ). p.1) g.1 in
    let front : to_be_bytes w n ≡ take (byte_len w) bytes = rw (← n-is) (wide.back (take (byte_len w) bytes) (omega (arith, length-take (byte_len w) bytes)) (IsBytes-take (byte_len w) bytes fits)) in
    (record { parts = rw (front, ← rest-is) (sym (take-append-drop (byte_len w) bytes)); rest_fits = rw (← rest-is) (IsBytes-drop (byte_len w) bytes fits) }, rw (← n-is) (wide.below (take (byte_len w) bytes) (IsBytes-take (byte_len w) bytes fits)))

number_again : (w : Width) (limit : ℕ) (wide : IsWide w limit) (n : ℕ) (rest : List ℕ) → n < limit → number_at w (to_be_bytes w n ++ rest) ≡ Some (n, rest)
number_again w limit wide n rest lt =
    let len = wide.len n in
    let long : ltb (length (to_be_bytes w n ++ rest)) (byte_len w) ≡ false = le-ltb _ _ (omega (arith, length-append (to_be_bytes w n) rest)) in
    rw (long, take_at (to_be_bytes w n) rest (byte_len w) len, drop_at (to_be_bytes w n) rest (byte_len w) len, wide.again n lt) refl

pub two_takes : (bytes : List ℕ) (x : ℕ × List ℕ) → IsBytes bytes → number_at w16 bytes ≡ Some x → Takes bytes (to_be_bytes w16 x.0) x.1 × (x.0 < 2 ^ 16)
two_takes bytes x fits e = number_takes w16 (2 ^ 16) wide16 bytes x.0 x.1 fits e

pub eight_takes : (bytes : List ℕ) (x : ℕ × List ℕ) → IsBytes bytes → number_at w64 bytes ≡ Some x → Takes bytes (to_be_bytes w64 x.0) x.1 × (x.0 < 2 ^ 64)
eight_takes bytes x fits e = number_takes w64 (2 ^ 64) wide64 bytes x.0 x.1 fits e

pub two_again : (n : ℕ) (rest : List ℕ) → n < 2 ^ 16 → number_at w16 (to_be_bytes w16 n ++ rest) ≡ Some (n, rest)
two_again n rest lt = number_again w16 (2 ^ 16) wide16 n rest lt

pub eight_again : (n : ℕ) (rest : List ℕ) → n < 2 ^ 64 → number_at w64 (to_be_bytes w64 n ++ rest) ≡ Some (n, rest)
eight_again n rest lt = number_again w64 (2 ^ 64) wide64 n rest lt

-- ---- lists

-- a reader takes these texts
pub record TakesEach {A : Type 0} (text : A → List ℕ) (one : List ℕ → Option (A × List ℕ)) : Type 0 where
  pub takes : (bytes : List ℕ) (x : A × List ℕ) → IsBytes bytes → one bytes ≡ Some x → Takes bytes (text x.0) x.1

-- a reader reads these texts again, of what is good
pub record ReadsAgain {A : Type 0} (good : A → Type 0) (text : A → List ℕ) (one : List ℕ → Option (A × List ℕ)) : Type 0 where
  pub again : (x : A) (rest : List ℕ) → good x → one (text x ++ rest) ≡ Some (x, rest)

pub items_take : {A : Type 0} (text : A → List ℕ) (one : List ℕ → Option (A × List ℕ)) (each : TakesEach text one) (n : ℕ) (bytes : List ℕ) (x : List A × List ℕ) →
    IsBytes bytes → items_at one n bytes ≡ Some x → Takes bytes (flat_map text x.0) x.1 × (length x.0 ≡ n)
unfolding items_at
items_take text one each zero bytes x fits e =
    subst (λ (y : List _ × List ℕ). Takes bytes (flat_map text y.0) y.1 × (length y.0 ≡ 0)) (some_is ([], bytes) x e) (record { parts = refl; rest_fits = fits }, refl)
items_take text one each (suc n) bytes x fits e =
    let a = bind_some (one bytes) (λ first. items_at one n first.1 >>= λ others. Some (first.0 ∷ others.0, others.1)) x e in
    let b = bind_some (items_at one n a.0.1) (λ others. Some (a.0.0 ∷ others.0, others.1)) x a.2 in
    let first = each.takes bytes a.0 fits a.1 in
    let second = items_take text one each n a.0.1 b.0 first.rest_fits b.1 in
    let both = Takes-then bytes (text a.0.0) a.0.1 (flat_map text b.0.0) b.0.1 first second.0 in
    subst (λ (y : List _ × List ℕ). Takes bytes (flat_map text y.0) y.1 × (length y.0 ≡ suc n)) (some_is (a.0.0 ∷ b.0.0, b.0.1) x b.2) (rw flat_map-cons both, ap suc second.1)

pub items_again : {A : Type 0} (good : A → Type 0) (text : A → List ℕ) (one : List ℕ → Option (A × List ℕ)) (each : ReadsAgain good text one) (xs : List A) (rest : List ℕ) →
    AllByRecursion good xs → items_at one (length xs) (flat_map text xs ++ rest) ≡ Some (xs, rest)
unfolding items_at
items_again good text one each [] rest fits = refl
items_again good text one each (x ∷ xs) rest fits =
    let regrouped : flat_map text (x ∷ xs) ++ rest ≡ text x ++ (flat_map text xs ++ rest) = ap (λ (t : List ℕ). t ++ rest) (flat_map-cons text x xs) ∙ append_assoc (text x) (flat_map text xs) rest in
    ap (items_at one (suc (length xs))) regrouped ∙ rw (each.again x (flat_map text xs ++ rest) fits.0, items_again good text one each xs rest fits.1) refl

pub list_takes : {A : Type 0} (text : A → List ℕ) (one : List ℕ → Option (A × List ℕ)) (each : TakesEach text one) (bytes : List ℕ) (x : List A × List ℕ) →
    IsBytes bytes → list_at one bytes ≡ Some x → Takes bytes (list_text text x.0) x.1 × (length x.0 < 2 ^ 16)
unfolding list_at
list_takes text one each bytes x fits e =
    let n = bind_some (number_at w16 bytes) (λ k. items_at one k.0 k.1) x e in
    let count = two_takes bytes n.0 fits n.1 in
    let items = items_take text one each n.0.0 n.0.1 x count.0.rest_fits n.2 in
    let head : Takes bytes (two_bytes (length x.0)) n.0.1 = subst (λ (k : ℕ). Takes bytes (two_bytes k) n.0.1) (sym items.1) count.0 in
    (Takes-then bytes (two_bytes (length x.0)) n.0.1 (flat_map text x.0) x.1 head items.0, omega (arith, count.1, items.1))

pub list_again : {A : Type 0} (good : A → Type 0) (text : A → List ℕ) (one : List ℕ → Option (A × List ℕ)) (each : ReadsAgain good text one) (xs : List A) (rest : List ℕ) →
    length xs < 2 ^ 16 → AllByRecursion good xs → list_at one (list_text text xs ++ rest) ≡ Some (xs, rest)
unfolding list_at
list_again good text one each xs rest short fits =
    ap (list_at one) (append_assoc (two_bytes (length xs)) (flat_map text xs) rest)
    ∙ rw (two_again (length xs) (flat_map text xs ++ rest) short) (items_again good text one each xs rest fits)
