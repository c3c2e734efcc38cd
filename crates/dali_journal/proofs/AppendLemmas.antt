use Rattle.std.proofs.Common.{◌≡◌, ◌≢◌, ◌∙◌, ◌⊎◌, inl, inr, ℕ, zero, suc, ◌+◌, ◌-◌, ◌≤◌, ◌<◌, Bool, true, false, List, [], ◌∷◌, ◌++◌, length, take, drop, Result, Ok, Err, OnOk, is_ok, refl, sym, ap, subst, arith, append_assoc}
use Rattle.std.proofs.lemmas.List.{take-append-drop, length-append, length-drop, take-append-le, drop-append-le}
use Rattle.dali_outside.specs.Outside.{Moment, Sight, TellsAll, overlay, now}
use Rattle.dali_outside.specs.Stops.{LeftAtOne, MightHaveLeft, MightHaveLeftAt, Keeps, LeavesOnly}
use Rattle.dali_outside.specs.Stops.{IsImage}
use Rattle.dali_outside.proofs.Images.{only_image}
use Rattle.dali_outside.proofs.Moments.{left_first, leaves_start, leaves_on, leaves_weaker}
use Rattle.dali_journal.specs.Holds.{HoldsAt, Holds}
use Rattle.dali_journal.specs.Frames.{AreFrames, AreShort}
use Rattle.dali_journal.specs.Appends.{IsFirm, AtRest, Torn, EitherList, Appends}
use Rattle.dali_journal.proofs.RecordLemmas.{header_length, records_append, opened, overlay_seam}
use Rattle.dali_journal.proofs.RestLemmas.{each_holds}
use Rattle.dali_journal.proofs.TornLemmas.{nothing_more}

module _ (tail edition : ℕ) (list : List (List ℕ)) (bytes : List ℕ) (at : HoldsAt tail edition list bytes) where
  seam : length (at.header ++ at.body) ≡ tail
  seam =
      let both : length (at.header ++ at.body) ≡ length at.header + length at.body = length-append at.header at.body in
      omega (arith, both, header_length edition at.header at.is_header, at.place)

  -- what stands behind the closed gate is free
  pub behind_gate : (stands : List ℕ) → HoldsAt tail edition list (overlay bytes (tail + 1) stands)
  behind_gate stands =
      let front = at.header ++ (at.body ++ 0 ∷ []) in
      let assoc : (behind : List ℕ) → front ++ behind ≡ at.header ++ (at.body ++ 0 ∷ behind) =
      (λ behind. append_assoc at.header (at.body ++ 0 ∷ []) behind ∙ ap (λ bs. at.header ++ bs) (append_assoc at.body (0 ∷ []) behind)) in
      let inner : length (at.body ++ 0 ∷ []) ≡ length at.body + 1 = length-append at.body (0 ∷ []) in
      let outer : length front ≡ length at.header + length (at.body ++ 0 ∷ []) = length-append at.header (at.body ++ 0 ∷ []) in
      let long : length front ≡ tail + 1 = omega (arith, inner, outer, header_length edition at.header at.is_header, at.place) in
      record {
        header = at.header;
        is_header = at.is_header;
        body = at.body;
        records = at.records;
        free = stands ++ drop (length stands) at.free;
        place = at.place;
        whole = ap (λ bs. overlay bs (tail + 1) stands) (at.whole ∙ sym (assoc at.free))
            ∙ overlay_seam front at.free stands (tail + 1) long
            ∙ assoc (stands ++ drop (length stands) at.free);
      }

  pub behind_free : (stands : List ℕ) → (behind_gate stands).free ≡ stands ++ drop (length stands) at.free
  unfolding behind_gate
  behind_free stands = refl

  at_gate : (gate : ℕ) → overlay bytes tail (gate ∷ []) ≡ at.header ++ (at.body ++ gate ∷ at.free)
  at_gate gate =
      ap (λ bs. overlay bs tail (gate ∷ [])) (at.whole ∙ sym (append_assoc at.header at.body (0 ∷ at.free)))
      ∙ overlay_seam (at.header ++ at.body) (0 ∷ at.free) (gate ∷ []) tail seam
      ∙ append_assoc at.header at.body (gate ∷ at.free)

  -- the gate is written, and stays closed
  gate_closed : HoldsAt tail edition list (overlay bytes tail (0 ∷ []))
  gate_closed = record {
    header = at.header;
    is_header = at.is_header;
    body = at.body;
    records = at.records;
    free = at.free;
    place = at.place;
    whole = at_gate 0;
  }

  module _ (more : List (List ℕ)) (frames rest : List ℕ) (are : AreFrames more frames) (short : AreShort more) (free : at.free ≡ frames ++ rest) where
    -- the gate is written, and opens
    pub gate_opened : (gate : ℕ) → gate ≢ 0 → HoldsAt (tail + length frames) edition (list ++ more) (overlay bytes tail (gate ∷ []))
    gate_opened gate set =
        let opening = opened more frames gate are short set in
        let longer : length (at.body ++ opening.records) ≡ length at.body + length opening.records = length-append at.body opening.records in
        let closed : length (opening.records ++ 0 ∷ []) ≡ length opening.records + 1 = length-append opening.records (0 ∷ []) in
        let same : length (gate ∷ frames) ≡ length (opening.records ++ 0 ∷ []) = ap length opening.whole in
        let one : length (gate ∷ frames) ≡ length frames + 1 = omega arith in
        record {
          header = at.header;
          is_header = at.is_header;
          body = at.body ++ opening.records;
          records = records_append list more at.body opening.records at.records opening.are;
          free = rest;
          place = omega (arith, longer, closed, same, one, at.place);
          whole = at_gate gate
              ∙ ap (λ bs. at.header ++ (at.body ++ gate ∷ bs)) free
              ∙ ap (λ bs. at.header ++ (at.body ++ (bs ++ rest))) opening.whole
              ∙ ap (λ bs. at.header ++ (at.body ++ bs)) (append_assoc opening.records (0 ∷ []) rest)
              ∙ ap (λ bs. at.header ++ bs) (sym (append_assoc at.body opening.records (0 ∷ rest)));
        }

    -- the gate is torn: it is 0 or not
    pub gate_torn : (gate : ℕ) → Holds edition list (overlay bytes tail (gate ∷ [])) ⊎ Holds edition (list ++ more) (overlay bytes tail (gate ∷ []))
    gate_torn zero = inl (record { tail = tail; at = gate_closed })
    gate_torn (suc n) = inr (record { tail = tail + length frames; at = gate_opened (suc n) (λ e. absurd (omega (arith, e))) })

one_of : (ms : List Moment) (image text : List ℕ) → LeftAtOne (take 1 ms) image text → LeftAtOne ms image text
one_of [] image text left = absurd left
one_of (m ∷ ms) image text (inl here) = inl here
one_of (m ∷ ms) image text (inr nothing) = absurd nothing

-- a moment that was over when the second step began was one of the first step's
earlier : (mid new : Sight) (t : ℕ) (image text : List ℕ) → take (length mid.past) new.past ≡ mid.past → t < length mid.past → MightHaveLeftAt new t image text → MightHaveLeft mid t image text
earlier mid new t image text kept over left =
    let behind = drop (length mid.past) new.past in
    let grown : new.past ≡ mid.past ++ behind = sym (take-append-drop (length mid.past) new.past) ∙ ap (λ ms. ms ++ behind) kept in
    let tail = behind ++ now new ∷ [] in
    let le : t ≤ length mid.past = omega (arith, over) in
    let rest : drop t (new.past ++ now new ∷ []) ≡ drop t mid.past ++ tail =
    ap (λ ms. drop t (ms ++ now new ∷ [])) grown ∙ ap (λ ms. drop t ms) (append_assoc mid.past behind (now new ∷ [])) ∙ drop-append-le t mid.past tail le in
    let long : length (drop t mid.past) ≡ length mid.past - t = length-drop t mid.past in
    let first : take 1 (drop t (new.past ++ now new ∷ [])) ≡ take 1 (drop t mid.past) =
    ap (λ ms. take 1 ms) rest ∙ take-append-le 1 (drop t mid.past) tail (omega (arith, long, over)) in
    subst (λ ms. LeftAtOne ms image text) (sym (drop-append-le t mid.past (now mid ∷ []) le))
    (left_first (drop t mid.past) (now mid ∷ []) image text (one_of (drop t mid.past) image text (subst (λ ms. LeftAtOne ms image text) first left)))

pub on_ok : {T E : Type 0} → (r : Result T E) (X : Type 0) → OnOk r X → is_ok r ≡ true → X
on_ok (Ok v) X given works = given
on_ok (Err e) X given works = absurd (cc works)

pub one_byte : (xs : List ℕ) → length xs ≡ 1 → (gate : ℕ) × (xs ≡ gate ∷ [])
one_byte [] one = absurd (omega (arith, one))
one_byte (gate ∷ []) one = (gate, refl)
one_byte (gate ∷ b ∷ xs) one = absurd (omega (arith, one))

module _ (tail edition : ℕ) (list more : List (List ℕ)) (frames : List ℕ) (old : Sight) (rest : AtRest tail edition list old) (rest_long : length old.loose ≡ length old.bytes) where
  -- what the write behind the gate may leave
  behind_keeps : (n : ℕ) (image text : List ℕ) → Torn old (tail + 1) n image text → Holds edition list image
  behind_keeps n image text torn = record {
    tail = tail;
    at = subst (HoldsAt tail edition list) (sym torn.whole) (behind_gate tail edition list old.bytes rest.holds torn.stands);
  }

  first_step : (n : ℕ) (mid : Sight) → LeavesOnly (Torn old (tail + 1) n) old mid → LeavesOnly (EitherList edition list more old.printed) old mid
  first_step n mid torn =
      leaves_weaker (Torn old (tail + 1) n) (EitherList edition list more old.printed) old mid
      (λ image text here. record { one = inl (behind_keeps n image text here); silent = here.silent }) torn

  -- nothing was written but behind the gate
  pub appends_one : (n : ℕ) (mid : Sight) → LeavesOnly (Torn old (tail + 1) n) old mid → Appends false tail edition list more frames old mid
  appends_one n mid torn = record {
    each = first_step n mid torn;
    first = λ image text left. behind_keeps n image text (torn.each image text (one_of (drop (length old.past) (mid.past ++ now mid ∷ [])) image text left));
    done = λ works. absurd (cc works);
    after = λ works. absurd (cc works);
  }

  -- nothing was written
  pub appends_none : Appends false tail edition list more frames old old
  appends_none =
      let keeps : Keeps (λ image text. Holds edition list image × (text ≡ old.printed)) (now old) =
      (λ image text left. (
        record {
          tail = tail;
          at = subst (HoldsAt tail edition list) (sym (only_image old.bytes (length old.loose) image rest_long (subst (λ ls. IsImage old.bytes ls image) rest.firm left.disk))) rest.holds;
        },
        left.printed ∙ nothing_more old.printed left.n,
      )) in
      let still = leaves_start (λ image text. Holds edition list image × (text ≡ old.printed)) old keeps in
      record {
        each = leaves_weaker (λ image text. Holds edition list image × (text ≡ old.printed)) (EitherList edition list more old.printed) old old (λ image text here. record { one = inl here.0; silent = here.1 }) still;
        first = λ image text left. (still.each image text (one_of (drop (length old.past) (old.past ++ now old ∷ [])) image text left)).0;
        done = λ works. absurd (cc works);
        after = λ works. absurd (cc works);
      }

  module _ (mid new : Sight) (are : AreFrames more frames) (short : AreShort more) (n : ℕ)
      (torn : LeavesOnly (Torn old (tail + 1) n) old mid) (bytes : mid.bytes ≡ overlay old.bytes (tail + 1) frames) (silent : mid.printed ≡ old.printed)
      (over : length old.past < length mid.past) (gate : LeavesOnly (Torn mid tail 1) mid new) where
    abbrev mid_at : HoldsAt tail edition list (overlay old.bytes (tail + 1) frames)
    mid_at = behind_gate tail edition list old.bytes rest.holds frames

    free : (behind_gate tail edition list old.bytes rest.holds frames).free ≡ frames ++ drop (length frames) rest.holds.free
    free = behind_free tail edition list old.bytes rest.holds frames

    second_step : LeavesOnly (EitherList edition list more old.printed) mid new
    second_step =
        leaves_weaker (Torn mid tail 1) (EitherList edition list more old.printed) mid new
        (λ image text here.
        let one = one_byte here.stands here.as_long in
        let whole : image ≡ overlay (overlay old.bytes (tail + 1) frames) tail (one.0 ∷ []) =
        here.whole ∙ ap (λ bs. overlay bs tail here.stands) bytes ∙ ap (λ bs. overlay (overlay old.bytes (tail + 1) frames) tail bs) one.1 in
        record {
          one = subst (λ im. Holds edition list im ⊎ Holds edition (list ++ more) im) (sym whole)
              (gate_torn tail edition list (overlay old.bytes (tail + 1) frames) mid_at more frames (drop (length frames) rest.holds.free) are short free one.0);
          silent = here.silent ∙ silent;
        }) gate

    stands : (IsFirm new × (new.bytes ≡ overlay mid.bytes tail (1 ∷ [])) × TellsAll new) → AtRest (tail + length frames) edition (list ++ more) new
    stands end = record {
      holds = subst (HoldsAt (tail + length frames) edition (list ++ more)) (sym (end.1 ∙ ap (λ bs. overlay bs tail (1 ∷ [])) bytes))
          (gate_opened tail edition list (overlay old.bytes (tail + 1) frames) mid_at more frames (drop (length frames) rest.holds.free) are short free 1 (λ e. absurd (omega (arith, e))));
      firm = end.0;
    }

    pub appends_two : (worked : Bool) → (worked ≡ true → (IsFirm new × (new.bytes ≡ overlay mid.bytes tail (1 ∷ [])) × TellsAll new)) → Appends worked tail edition list more frames old new
    appends_two worked ends = record {
      each = leaves_on (EitherList edition list more old.printed) old mid (first_step n mid torn) new second_step;
      first = λ image text left. behind_keeps n image text (torn.each image text (earlier mid new (length old.past) image text gate.kept over left));
      done = λ works. stands (ends works);
      after = λ works. each_holds (tail + length frames) edition (list ++ more) new (ends works).2 (stands (ends works));
    }
