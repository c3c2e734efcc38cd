use Rattle.std.proofs.Common.{◌≡◌, ◌∙◌, inl, inr, ℕ, false, List, [], ◌∷◌, length, replicate, sym, subst}
use Rattle.std.proofs.Math.Seq.{drop-append_seam}
use Rattle.dali_outside.specs.Outside.{Sight, Moment, now, TellsAll}
use Rattle.dali_outside.specs.Stops.{IsImage, MayLeave, LeftAtOne, MightHaveLeft}
use Rattle.dali_outside.proofs.Images.{only_image}
use Rattle.dali_journal.specs.Holds.{Holds}
use Rattle.dali_journal.specs.Appends.{AtRest, EachHolds}

one_moment : (m : Moment) (image text : List ℕ) → LeftAtOne (m ∷ []) image text → MayLeave m image text
one_moment m image text (inl may) = may
one_moment m image text (inr never) = absurd never

-- where nothing is loose, a stop now leaves the bytes that stand there
pub rest_image : (s : Sight) → TellsAll s → s.loose ≡ replicate (length s.loose) false → (image text : List ℕ) →
    MightHaveLeft s (length s.past) image text → image ≡ s.bytes
rest_image s all firm image text left =
    let may : MayLeave (now s) image text =
    one_moment (now s) image text (subst (λ ms. LeftAtOne ms image text) (drop-append_seam s.past (now s ∷ [])) left) in
    only_image s.bytes (length s.loose) image (all.loose ∙ sym all.bytes) (subst (λ l. IsImage s.bytes l image) firm may.disk)

-- at rest every image holds the list that the device holds
pub each_holds : (tail edition : ℕ) (list : List (List ℕ)) (s : Sight) → TellsAll s → AtRest tail edition list s → EachHolds edition list s
each_holds tail edition list s all rest image text left =
    subst (Holds edition list) (sym (rest_image s all rest.firm image text left)) (record { tail = tail; at = rest.holds })
