use Rattle.std.proofs.Common.{◌≡◌, ◌∙◌, ℕ, zero, suc, ◌<◌, ◌^◌, List, [], ◌∷◌, ◌++◌, length, take, drop, slice_index, refl, sym, ap, subst, arith, append_assoc}
use Rattle.std.specs.Int.{w32, to_be_bytes, from_be_bytes}
use Rattle.std.proofs.lemmas.List.{take_at, drop_at}
use Rattle.std.proofs.lemmas.Nat.{from_be_bytes-to_be_bytes_4}
use Rattle.dali_journal.specs.Holds.{AreMarks, IsHeader, gated, AreRecords, Holds}
use Rattle.dali_journal.proofs.RecordLemmas.{header_length}

marks_one : (j k : ℕ) (marks : List ℕ) → AreMarks j marks → AreMarks k marks → j ≡ k
marks_one zero zero marks first second = refl
marks_one zero (suc k) [] first second = absurd second
marks_one zero (suc k) (b ∷ marks) first second = absurd (second.0 (ap (λ xs. slice_index xs 0) first))
marks_one (suc j) zero [] first second = absurd first
marks_one (suc j) zero (b ∷ marks) first second = absurd (first.0 (ap (λ xs. slice_index xs 0) second))
marks_one (suc j) (suc k) [] first second = absurd first
marks_one (suc j) (suc k) (b ∷ marks) first second = ap suc (marks_one j k marks first.1 second.1)

pub header_one : (e f : ℕ) (header : List ℕ) → IsHeader e header → IsHeader f header → e ≡ f
header_one e f header first second =
    let behind : first.marks ++ 1 ∷ [] ≡ second.marks ++ 1 ∷ [] = ap (λ xs. drop 12 xs) (sym first.whole ∙ second.whole) in
    let marks : first.marks ≡ second.marks = sym (take_at first.marks (1 ∷ []) 3 first.three) ∙ ap (λ xs. take 3 xs) behind ∙ take_at second.marks (1 ∷ []) 3 second.three in
    let j = marks_one first.j second.j second.marks (subst (AreMarks first.j) marks first.set) second.set in
    omega (arith, first.edition_is, second.edition_is, j)

-- two records that begin one list of bytes are of one payload
pub payload_one : (g h : ℕ) (p q xs ys : List ℕ) → length p < 2 ^ 32 → length q < 2 ^ 32 → gated g p ++ xs ≡ gated h q ++ ys → (p ≡ q) × (xs ≡ ys)
payload_one g h p q xs ys p_short q_short is =
    let bp = to_be_bytes w32 (length p) in
    let bq = to_be_bytes w32 (length q) in
    let behind : bp ++ (p ++ xs) ≡ bq ++ (q ++ ys) = sym (append_assoc bp p xs) ∙ ap (λ bs. drop 1 bs) is ∙ append_assoc bq q ys in
    let lengths : bp ≡ bq = ap (λ bs. take 4 bs) behind in
    let same : length p ≡ length q = sym (from_be_bytes-to_be_bytes_4 (length p) p_short) ∙ ap (λ bs. from_be_bytes w32 bs) lengths ∙ from_be_bytes-to_be_bytes_4 (length q) q_short in
    let rest : p ++ xs ≡ q ++ ys = ap (λ bs. drop 4 bs) behind in (
      sym (take_at p xs (length p) refl) ∙ ap (λ bs. take (length p) bs) rest ∙ take_at q ys (length p) (sym same),
      sym (drop_at p xs (length p) refl) ∙ ap (λ bs. drop (length p) bs) rest ∙ drop_at q ys (length p) (sym same),
    )

records_one : (list other : List (List ℕ)) (body behind rest free : List ℕ) → AreRecords list body → AreRecords other behind → body ++ 0 ∷ rest ≡ behind ++ 0 ∷ free → list ≡ other
records_one [] [] body behind rest free first second is = refl
records_one [] (q ∷ other) body behind rest free first second is =
    let bytes : 0 ∷ rest ≡ (gated second.0 q ++ second.3) ++ 0 ∷ free = sym (ap (λ bs. bs ++ 0 ∷ rest) first) ∙ is ∙ ap (λ bs. bs ++ 0 ∷ free) second.4 in
    absurd (second.1 (sym (ap (λ bs. slice_index bs 0) bytes)))
records_one (p ∷ list) [] body behind rest free first second is =
    let bytes : (gated first.0 p ++ first.3) ++ 0 ∷ rest ≡ 0 ∷ free = sym (ap (λ bs. bs ++ 0 ∷ rest) first.4) ∙ is ∙ ap (λ bs. bs ++ 0 ∷ free) second in
    absurd (first.1 (ap (λ bs. slice_index bs 0) bytes))
records_one (p ∷ list) (q ∷ other) body behind rest free first second is =
    let bytes : gated first.0 p ++ (first.3 ++ 0 ∷ rest) ≡ gated second.0 q ++ (second.3 ++ 0 ∷ free) =
    sym (append_assoc (gated first.0 p) first.3 (0 ∷ rest)) ∙ sym (ap (λ bs. bs ++ 0 ∷ rest) first.4) ∙ is
    ∙ ap (λ bs. bs ++ 0 ∷ free) second.4 ∙ append_assoc (gated second.0 q) second.3 (0 ∷ free) in
    let both = payload_one first.0 second.0 p q (first.3 ++ 0 ∷ rest) (second.3 ++ 0 ∷ free) first.2 second.2 bytes in
    ap (λ x. x ∷ list) both.0 ∙ ap (λ xs. q ∷ xs) (records_one list other first.3 second.3 rest free first.5 second.5 both.1)

pub one_list : (e f : ℕ) (list other : List (List ℕ)) (image : List ℕ) → Holds e list image → Holds f other image → (e ≡ f) × (list ≡ other)
one_list e f list other image first second =
    let a = first.at in
    let b = second.at in
    let whole : a.header ++ (a.body ++ 0 ∷ a.free) ≡ b.header ++ (b.body ++ 0 ∷ b.free) = sym a.whole ∙ b.whole in
    let a_long = header_length e a.header a.is_header in
    let b_long = header_length f b.header b.is_header in
    let header : a.header ≡ b.header = sym (take_at a.header (a.body ++ 0 ∷ a.free) 16 a_long) ∙ ap (λ bs. take 16 bs) whole ∙ take_at b.header (b.body ++ 0 ∷ b.free) 16 b_long in
    let rest : a.body ++ 0 ∷ a.free ≡ b.body ++ 0 ∷ b.free = sym (drop_at a.header (a.body ++ 0 ∷ a.free) 16 a_long) ∙ ap (λ bs. drop 16 bs) whole ∙ drop_at b.header (b.body ++ 0 ∷ b.free) 16 b_long in
    (header_one e f b.header (subst (IsHeader e) header a.is_header) b.is_header, records_one list other a.body b.body a.free b.free a.records b.records rest)
