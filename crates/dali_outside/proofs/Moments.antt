use Rattle.std.proofs.Common.{◌≡◌, ◌∙◌, ◌⊎◌, inl, inr, ℕ, ◌≤◌, ◌<◌, false, List, [], ◌∷◌, ◌++◌, All, length, take, drop, replicate, refl, sym, ap, subst, arith, append_assoc, append-nil}
use Rattle.std.proofs.lemmas.List.{take-append-drop, take_all, drop_at, length-take, length-replicate, drop-append-le, take-append-le}
use Rattle.dali_outside.specs.Outside.{Moment, Sight, now, printing, after_print, Syncs, SameDisk, SameText, Goes, TellsAll}
use Rattle.dali_outside.specs.Stops.{IsImage, LeftAtOne, Keeps, LeavesOnly}
use Rattle.dali_outside.proofs.Images.{own_left, only_image}

-- after a sync that worked there is still a byte and a mark for each place
pub synced_all : (old new : Sight) → TellsAll old → Syncs old new → Goes old new → TellsAll new
synced_all old new all syncs goes = record {
  bytes = omega (arith, ap length syncs.bytes, all.bytes, goes.same_size);
  loose = omega (arith, ap length syncs.loose, length-replicate (length old.loose) false, all.loose, goes.same_size);
  small = subst (All (λ b. b < 256)) (sym syncs.bytes) all.small;
}

-- whatever a stop at one of these moments leaves has P
abbrev pub KeepsEach : (List ℕ → List ℕ → Type 0) → List Moment → Type 0
KeepsEach P moments = (image text : List ℕ) → LeftAtOne moments image text → P image text

left_parts : (ms ns : List Moment) (image text : List ℕ) → LeftAtOne (ms ++ ns) image text → LeftAtOne ms image text ⊎ LeftAtOne ns image text
left_parts [] ns image text left = inr left
left_parts (m ∷ ms) ns image text (inl here) = inl (inl here)
left_parts (m ∷ ms) ns image text (inr later) = elim (left_parts ms ns image text later) [
  | inl first ↦ inl (inr first)
  | inr second ↦ inr second
]

pub left_first : (ms ns : List Moment) (image text : List ℕ) → LeftAtOne ms image text → LeftAtOne (ms ++ ns) image text
left_first [] ns image text left = absurd left
left_first (m ∷ ms) ns image text (inl here) = inl here
left_first (m ∷ ms) ns image text (inr later) = inr (left_first ms ns image text later)

left_second : (ms ns : List Moment) (image text : List ℕ) → LeftAtOne ns image text → LeftAtOne (ms ++ ns) image text
left_second [] ns image text left = left
left_second (m ∷ ms) ns image text left = inr (left_second ms ns image text left)

pub keeps_one : (P : List ℕ → List ℕ → Type 0) (m : Moment) → Keeps P m → KeepsEach P (m ∷ [])
keeps_one P m keeps image text (inl here) = keeps image text here
keeps_one P m keeps image text (inr nothing) = absurd nothing

pub keeps_two : (P : List ℕ → List ℕ → Type 0) (m n : Moment) → Keeps P m → Keeps P n → KeepsEach P (m ∷ n ∷ [])
keeps_two P m n first second image text (inl here) = first image text here
keeps_two P m n first second image text (inr later) = keeps_one P n second image text later

-- before the first call
pub leaves_start : (P : List ℕ → List ℕ → Type 0) (s : Sight) → Keeps P (now s) → LeavesOnly P s s
leaves_start P s keeps = record {
  kept = take_all (length s.past) s.past (omega arith);
  each = λ image text left. keeps_one P (now s) keeps image text (subst (λ ms. LeftAtOne ms image text) (drop_at s.past (now s ∷ []) (length s.past) refl) left);
}

module _ (P : List ℕ → List ℕ → Type 0) (old mid : Sight) (so_far : LeavesOnly P old mid) where
  no_later : length old.past ≤ length mid.past
  no_later = omega (arith, ap length so_far.kept, length-take (length old.past) mid.past)

  earlier : (ms : List Moment) → drop (length old.past) (mid.past ++ ms) ≡ drop (length old.past) mid.past ++ ms
  earlier ms = drop-append-le (length old.past) mid.past ms no_later

  -- what a stop now leaves has P
  pub keeps_now : Keeps P (now mid)
  keeps_now image text left = so_far.each image text (subst (λ ms. LeftAtOne ms image text) (sym (earlier (now mid ∷ []))) (left_second (drop (length old.past) mid.past) (now mid ∷ []) image text (inl left)))

  -- more moments ended, at each of which a stop leaves what has P
  pub leaves_more : (new : Sight) (more : List Moment) → new.past ≡ mid.past ++ more → KeepsEach P (more ++ now new ∷ []) → LeavesOnly P old new
  leaves_more new more grown keeps = record {
    kept = ap (λ ms. take (length old.past) ms) grown ∙ take-append-le (length old.past) mid.past more no_later ∙ so_far.kept;
    each = λ image text left.
        let parted : drop (length old.past) (new.past ++ now new ∷ []) ≡ drop (length old.past) mid.past ++ (more ++ now new ∷ []) =
        ap (λ ms. drop (length old.past) (ms ++ now new ∷ [])) grown
        ∙ ap (λ ms. drop (length old.past) ms) (append_assoc mid.past more (now new ∷ []))
        ∙ earlier (more ++ now new ∷ []) in
        elim (left_parts (drop (length old.past) mid.past) (more ++ now new ∷ []) image text (subst (λ ms. LeftAtOne ms image text) parted left)) [
          | inl first ↦ so_far.each image text (subst (λ ms. LeftAtOne ms image text) (sym (earlier (now mid ∷ []))) (left_first (drop (length old.past) mid.past) (now mid ∷ []) image text first))
          | inr second ↦ keeps image text second
        ];
  }

  -- a call that ends no moment: a read, a write, a sync that failed
  pub leaves_same : (new : Sight) → SameText mid new → Keeps P (now new) → LeavesOnly P old new
  leaves_same new same keeps = leaves_more new [] (same.past ∙ sym (append-nil mid.past)) (keeps_one P (now new) keeps)

  -- a call that changes nothing that a stop leaves
  pub leaves_still : (new : Sight) → SameDisk mid new → SameText mid new → LeavesOnly P old new
  leaves_still new disk same =
      let one : now new ≡ now mid = (λ i. record { bytes = disk.bytes i; loose = disk.loose i; text = same.printed i; piece = [] }) in
      leaves_same new same (subst (Keeps P) (sym one) keeps_now)

  -- a sync that worked
  pub leaves_sync : (new : Sight) → Syncs mid new → TellsAll mid → LeavesOnly P old new
  leaves_sync new syncs all =
      let firm : Keeps P (now new) = (λ image text left.
      let same : image ≡ mid.bytes = only_image mid.bytes (length mid.loose) image (omega (arith, all.bytes, all.loose)) (subst (λ bs. IsImage bs (replicate (length mid.loose) false) image) syncs.bytes (subst (λ ls. IsImage new.bytes ls image) syncs.loose left.disk)) in
      keeps_now image text (record {
        disk = subst (λ bs. IsImage mid.bytes mid.loose bs) (sym same) (own_left mid all).disk;
        n = left.n;
        printed = left.printed ∙ ap (λ xs. xs ++ take left.n []) syncs.printed;
      })) in
      leaves_more new (now mid ∷ []) syncs.past (keeps_two P (now mid) (now new) keeps_now firm)

  -- a put, of which these bytes were printed
  pub leaves_put : (new : Sight) (went : List ℕ) → new.past ≡ after_print mid went → Keeps P (printing mid went) → Keeps P (now new) → LeavesOnly P old new
  leaves_put new [] ended within keeps = leaves_more new [] (ended ∙ sym (append-nil mid.past)) (keeps_one P (now new) keeps)
  leaves_put new (b ∷ went) ended within keeps = leaves_more new (printing mid (b ∷ went) ∷ []) ended (keeps_two P (printing mid (b ∷ went)) (now new) within keeps)

  -- one call after another
  pub leaves_on : (new : Sight) → LeavesOnly P mid new → LeavesOnly P old new
  leaves_on new later =
      let more = drop (length mid.past) new.past in
      let grown : new.past ≡ mid.past ++ more = sym (take-append-drop (length mid.past) new.past) ∙ ap (λ ms. ms ++ more) later.kept in
      let rest : drop (length mid.past) (new.past ++ now new ∷ []) ≡ more ++ now new ∷ [] =
      ap (λ ms. drop (length mid.past) (ms ++ now new ∷ [])) grown
      ∙ ap (λ ms. drop (length mid.past) ms) (append_assoc mid.past more (now new ∷ []))
      ∙ drop_at mid.past (more ++ now new ∷ []) (length mid.past) refl in
      leaves_more new more grown (λ image text left. later.each image text (subst (λ ms. LeftAtOne ms image text) (sym rest) left))

pub leaves_weaker : (P Q : List ℕ → List ℕ → Type 0) (old new : Sight) → ((image text : List ℕ) → P image text → Q image text) → LeavesOnly P old new → LeavesOnly Q old new
leaves_weaker P Q old new weaker so_far = record { kept = so_far.kept; each = λ image text left. weaker image text (so_far.each image text left) }
