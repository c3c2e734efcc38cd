use Rattle.std.proofs.Common.{◌≡◌, ◌≢◌, ◌∙◌, ◌⊎◌, inl, inr, ℕ, zero, suc, ◌+◌, ◌-◌, ◌≤◌, ◌<◌, List, [], ◌∷◌, ◌++◌, length, take, drop, slice_index, Option, Some, None, IfSome, IfNone, refl, sym, ap, subst, arith, append_assoc}
use Rattle.std.proofs.lemmas.List.{take-append-drop, length-drop, take-append-le, drop-append-le}
use Rattle.std.proofs.Math.Seq.{drop-append-add, take-append-add}
use Rattle.dali_outside.specs.Outside.{Sight, overlay}
use Rattle.dali_journal.specs.Holds.{head_text, empty_start, AreMarks, IsHeader, StandsTo, HoldsAt}
use Rattle.dali_journal.specs.Appends.{IsFirm, AtRest, Torn, EitherEdition}
use Rattle.dali_outside.specs.Stops.{LeavesOnly}
use Rattle.dali_outside.proofs.Moments.{leaves_weaker}
use Rattle.dali_journal.proofs.AppendLemmas.{one_byte}
use Rattle.dali_journal.proofs.RecordLemmas.{header_length}

-- what three bytes stand for
pub marks_none : (a b c j : ℕ) → (a ≡ 0 → (b ≡ 0 → c ≡ 0 → ⊥)) → (a ≢ 0 → b ≡ 0 → c ≡ 0 → ⊥) → (a ≢ 0 → b ≢ 0 → c ≡ 0 → ⊥) → (a ≢ 0 → b ≢ 0 → c ≢ 0 → ⊥) → AreMarks j (a ∷ b ∷ c ∷ []) → ⊥
marks_none a b c zero none one two three are =
    none (ap (λ xs. slice_index xs 0) are) (ap (λ xs. slice_index xs 1) are) (ap (λ xs. slice_index xs 2) are)
marks_none a b c (suc zero) none one two three are =
    one are.0 (ap (λ xs. slice_index xs 0) are.1) (ap (λ xs. slice_index xs 1) are.1)
marks_none a b c (suc (suc zero)) none one two three are = two are.0 are.1.0 (ap (λ xs. slice_index xs 0) are.1.1)
marks_none a b c (suc (suc (suc zero))) none one two three are = three are.0 are.1.0 are.1.1.0
marks_none a b c (suc (suc (suc (suc j)))) none one two three are = absurd are.1.1.1

four_bytes : (xs : List ℕ) → length xs ≡ 4 → xs ≡ slice_index xs 0 ∷ slice_index xs 1 ∷ slice_index xs 2 ∷ slice_index xs 3 ∷ []
four_bytes [] four = absurd (omega (arith, four))
four_bytes (a ∷ []) four = absurd (omega (arith, four))
four_bytes (a ∷ b ∷ []) four = absurd (omega (arith, four))
four_bytes (a ∷ b ∷ c ∷ []) four = absurd (omega (arith, four))
four_bytes (a ∷ b ∷ c ∷ d ∷ []) four = refl
four_bytes (a ∷ b ∷ c ∷ d ∷ e ∷ xs) four = absurd (omega (arith, four))

three_bytes : (xs : List ℕ) → length xs ≡ 3 → xs ≡ slice_index xs 0 ∷ slice_index xs 1 ∷ slice_index xs 2 ∷ []
three_bytes [] three = absurd (omega (arith, three))
three_bytes (a ∷ []) three = absurd (omega (arith, three))
three_bytes (a ∷ b ∷ []) three = absurd (omega (arith, three))
three_bytes (a ∷ b ∷ c ∷ []) three = refl
three_bytes (a ∷ b ∷ c ∷ d ∷ xs) three = absurd (omega (arith, three))

-- the parts of a header
pub header_made : (header : List ℕ) (edition j : ℕ) → length header ≡ 16 → take 12 header ≡ head_text → slice_index (drop 12 header) 3 ≡ 1 → edition ≡ j + 1 →
    AreMarks j (slice_index (drop 12 header) 0 ∷ slice_index (drop 12 header) 1 ∷ slice_index (drop 12 header) 2 ∷ []) → IsHeader edition header
header_made header edition j long text one is are =
    let rest = drop 12 header in
    let four : length rest ≡ length header - 12 = length-drop 12 header in
    record {
      j = j;
      edition_is = is;
      marks = slice_index rest 0 ∷ slice_index rest 1 ∷ slice_index rest 2 ∷ [];
      three = refl;
      set = are;
      whole = sym (take-append-drop 12 header) ∙ ap (λ xs. xs ++ rest) text ∙ ap (λ xs. head_text ++ xs)
          (four_bytes rest (omega (arith, four, long)) ∙ ap (λ b. slice_index rest 0 ∷ slice_index rest 1 ∷ slice_index rest 2 ∷ b ∷ []) one);
    }

pub record Parts (header : List ℕ) : Type 0 where
  pub text : take 12 header ≡ head_text
  pub one : slice_index (drop 12 header) 3 ≡ 1
  pub j : ℕ
  pub are : AreMarks j (slice_index (drop 12 header) 0 ∷ slice_index (drop 12 header) 1 ∷ slice_index (drop 12 header) 2 ∷ [])

pub header_parts : (header : List ℕ) (edition : ℕ) → IsHeader edition header → Parts header
header_parts header edition is =
    let behind = is.marks ++ 1 ∷ [] in
    let rest : drop 12 header ≡ behind = ap (λ xs. drop 12 xs) is.whole in
    let three = three_bytes is.marks is.three in
    let marks : drop 12 header ≡ slice_index is.marks 0 ∷ slice_index is.marks 1 ∷ slice_index is.marks 2 ∷ 1 ∷ [] = rest ∙ ap (λ xs. xs ++ 1 ∷ []) three in
    record {
      text = ap (λ xs. take 12 xs) is.whole;
      one = ap (λ xs. slice_index xs 3) marks;
      j = is.j;
      are = subst (AreMarks is.j) (three ∙ sym (ap (λ xs. slice_index xs 0 ∷ slice_index xs 1 ∷ slice_index xs 2 ∷ []) marks)) is.set;
    }

pub some_from : {X : Type 0} → (o : Option X) (P Q : X → Type 0) → IfSome o P → ((x : X) → P x → Q x) → IfSome o Q
some_from None P Q given step = tt
some_from (Some x) P Q given step = step x given

pub none_from : {X : Type 0} → (o : Option X) (P Q : Type 0) → IfNone o P → (P → Q) → IfNone o Q
none_from None P Q given step = step given
none_from (Some x) P Q given step = tt

-- from a header in front
pub stands_first : (edition : ℕ) (header bytes : List ℕ) → header ≡ take 16 bytes → IsHeader edition header → StandsTo 16 edition [] bytes
stands_first edition header bytes front is = record {
  header = header;
  is_header = is;
  body = [];
  records = refl;
  rest = drop 16 bytes;
  place = refl;
  whole = sym (take-append-drop 16 bytes) ∙ ap (λ xs. xs ++ drop 16 bytes) (sym front);
}

overlay_cons : {X : Type 0} → (x : X) (xs : List X) (n : ℕ) (ys : List X) → overlay (x ∷ xs) (suc n) ys ≡ x ∷ overlay xs n ys
overlay_cons x xs n ys = ap (λ k. x ∷ (take n xs ++ (ys ++ drop k (x ∷ xs)))) (let same : suc n + length ys ≡ suc (n + length ys) = omega arith in same)

-- over the front of two lists, or over the second
overlay_front : {X : Type 0} → (xs ys zs : List X) (n : ℕ) → n + length zs ≤ length xs → overlay (xs ++ ys) n zs ≡ overlay xs n zs ++ ys
overlay_front xs ys zs n fits =
    ap (λ front. front ++ (zs ++ drop (n + length zs) (xs ++ ys))) (take-append-le n xs ys (omega (arith, fits)))
    ∙ ap (λ behind. take n xs ++ (zs ++ behind)) (drop-append-le (n + length zs) xs ys fits)
    ∙ ap (λ behind. take n xs ++ behind) (sym (append_assoc zs (drop (n + length zs) xs) ys))
    ∙ sym (append_assoc (take n xs) (zs ++ drop (n + length zs) xs) ys)

overlay_second : {X : Type 0} → (xs ys zs : List X) (n : ℕ) → overlay (xs ++ ys) (length xs + n) zs ≡ xs ++ overlay ys n zs
overlay_second xs ys zs n =
    ap (λ front. front ++ (zs ++ drop (length xs + n + length zs) (xs ++ ys))) (take-append-add xs ys n)
    ∙ ap (λ k. (xs ++ take n ys) ++ (zs ++ drop k (xs ++ ys))) (let same : length xs + n + length zs ≡ length xs + (n + length zs) = omega arith in same)
    ∙ ap (λ behind. (xs ++ take n ys) ++ (zs ++ behind)) (drop-append-add xs ys (n + length zs))
    ∙ append_assoc xs (take n ys) (zs ++ drop (n + length zs) ys)

marks_length : (j : ℕ) (marks : List ℕ) (b : ℕ) → j < length marks → length (overlay marks j (b ∷ [])) ≡ length marks
marks_length zero [] b within = absurd (omega (arith, within))
marks_length zero (m ∷ marks) b within = refl
marks_length (suc j) [] b within = absurd (omega (arith, within))
marks_length (suc j) (m ∷ marks) b within = ap length (overlay_cons m marks j (b ∷ [])) ∙ ap suc (marks_length j marks b (omega (arith, within)))

-- the next edition byte stays 0
marks_same : (j : ℕ) (marks : List ℕ) → AreMarks j marks → j < length marks → overlay marks j (0 ∷ []) ≡ marks
marks_same zero [] are within = absurd (omega (arith, within))
marks_same zero (m ∷ marks) are within = ap (λ b. b ∷ marks) (sym (ap (λ xs. slice_index xs 0) are))
marks_same (suc j) [] are within = absurd are
marks_same (suc j) (m ∷ marks) are within = overlay_cons m marks j (0 ∷ []) ∙ ap (λ xs. m ∷ xs) (marks_same j marks are.1 (omega (arith, within)))

-- the next edition byte becomes another
marks_more : (j : ℕ) (marks : List ℕ) (b : ℕ) → b ≢ 0 → AreMarks j marks → j < length marks → AreMarks (suc j) (overlay marks j (b ∷ []))
marks_more zero [] b set are within = absurd (omega (arith, within))
marks_more zero (m ∷ marks) b set are within = (set, ap (λ xs. drop 1 xs) are)
marks_more (suc j) [] b set are within = absurd are
marks_more (suc j) (m ∷ marks) b set are within = subst (AreMarks (suc (suc j))) (sym (overlay_cons m marks j (b ∷ []))) (are.0, marks_more j marks b set are.1 (omega (arith, within)))

module _ (tail edition : ℕ) (list : List (List ℕ)) (bytes : List ℕ) (at : HoldsAt tail edition list bytes) (below : edition < 4) where
  fits : at.is_header.j < length at.is_header.marks
  fits = omega (arith, below, at.is_header.edition_is, at.is_header.three)

  rewritten : (b : ℕ) → overlay bytes (11 + edition) (b ∷ []) ≡ (head_text ++ (overlay at.is_header.marks at.is_header.j (b ∷ []) ++ 1 ∷ [])) ++ (at.body ++ 0 ∷ at.free)
  rewritten b =
      let marks = at.is_header.marks in
      let j = at.is_header.j in
      let rest = at.body ++ 0 ∷ at.free in
      let place : 11 + edition ≡ length head_text + j = omega (arith, at.is_header.edition_is) in
      let sixteen : length (head_text ++ (marks ++ 1 ∷ [])) ≡ 16 = sym (ap length at.is_header.whole) ∙ header_length edition at.header at.is_header in
      ap (λ xs. overlay xs (11 + edition) (b ∷ [])) (at.whole ∙ ap (λ h. h ++ rest) at.is_header.whole)
      ∙ ap (λ n. overlay ((head_text ++ (marks ++ 1 ∷ [])) ++ rest) n (b ∷ [])) place
      ∙ overlay_front (head_text ++ (marks ++ 1 ∷ [])) rest (b ∷ []) (length head_text + j) (omega (arith, sixteen, below, at.is_header.edition_is))
      ∙ ap (λ h. h ++ rest) (overlay_second head_text (marks ++ 1 ∷ []) (b ∷ []) j)
      ∙ ap (λ ms. (head_text ++ ms) ++ rest) (overlay_front marks (1 ∷ []) (b ∷ []) j (omega (arith, fits)))

  pub edition_same : HoldsAt tail edition list (overlay bytes (11 + edition) (0 ∷ []))
  edition_same = record {
    header = at.header;
    is_header = at.is_header;
    body = at.body;
    records = at.records;
    free = at.free;
    place = at.place;
    whole = rewritten 0 ∙ ap (λ ms. (head_text ++ (ms ++ 1 ∷ [])) ++ (at.body ++ 0 ∷ at.free)) (marks_same at.is_header.j at.is_header.marks at.is_header.set fits)
        ∙ ap (λ h. h ++ (at.body ++ 0 ∷ at.free)) (sym at.is_header.whole);
  }

  pub edition_next : (b : ℕ) → b ≢ 0 → HoldsAt tail (edition + 1) list (overlay bytes (11 + edition) (b ∷ []))
  edition_next b set = record {
    header = head_text ++ (overlay at.is_header.marks at.is_header.j (b ∷ []) ++ 1 ∷ []);
    is_header = record {
      j = suc at.is_header.j;
      edition_is = omega (arith, at.is_header.edition_is);
      marks = overlay at.is_header.marks at.is_header.j (b ∷ []);
      three = marks_length at.is_header.j at.is_header.marks b fits ∙ at.is_header.three;
      set = marks_more at.is_header.j at.is_header.marks b set at.is_header.set fits;
      whole = refl;
    };
    body = at.body;
    records = at.records;
    free = at.free;
    place = at.place;
    whole = rewritten b;
  }

  pub edition_torn : (b : ℕ) → HoldsAt tail edition list (overlay bytes (11 + edition) (b ∷ [])) ⊎ HoldsAt tail (edition + 1) list (overlay bytes (11 + edition) (b ∷ []))
  edition_torn zero = inl edition_same
  edition_torn (suc n) = inr (edition_next (suc n) (λ e. absurd (omega (arith, e))))

-- the write of an edition byte
pub raise_stops : (tail edition : ℕ) (list : List (List ℕ)) (old new : Sight) → AtRest tail edition list old → edition < 4 →
    LeavesOnly (Torn old (11 + edition) 1) old new → LeavesOnly (EitherEdition tail edition list old.printed) old new
raise_stops tail edition list old new rest below torn =
    leaves_weaker (Torn old (11 + edition) 1) (EitherEdition tail edition list old.printed) old new
    (λ image text here.
    let one = one_byte here.stands here.as_long in
    record {
      one = subst (λ im. HoldsAt tail edition list im ⊎ HoldsAt tail (edition + 1) list im)
          (sym (here.whole ∙ ap (λ bs. overlay old.bytes (11 + edition) bs) one.1))
          (edition_torn tail edition list old.bytes rest.holds below one.0);
      silent = here.silent;
    }) torn

pub raised : (tail edition : ℕ) (list : List (List ℕ)) (old new : Sight) → AtRest tail edition list old → edition < 4 → IsFirm new →
    new.bytes ≡ overlay old.bytes (11 + edition) (1 ∷ []) → AtRest tail (edition + 1) list new
raised tail edition list old new rest below firm bytes = record {
  holds = subst (HoldsAt tail (edition + 1) list) (sym bytes) (edition_next tail edition list old.bytes rest.holds below 1 (λ e. absurd (omega (arith, e))));
  firm = firm;
}

-- the empty journal
pub empty_at : (bytes : List ℕ) → HoldsAt 16 1 [] (overlay bytes 0 empty_start)
empty_at bytes = record {
  header = head_text ++ ((0 ∷ 0 ∷ 0 ∷ []) ++ 1 ∷ []);
  is_header = record { j = 0; edition_is = refl; marks = 0 ∷ 0 ∷ 0 ∷ []; three = refl; set = refl; whole = refl };
  body = [];
  records = refl;
  free = drop 17 bytes;
  place = refl;
  whole = refl;
}
