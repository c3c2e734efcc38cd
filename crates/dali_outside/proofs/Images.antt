use Rattle.std.proofs.Common.{◌≡◌, ℕ, zero, suc, ◌<◌, Bool, true, false, List, [], ◌∷◌, All, length, take, drop, replicate, refl, sym, arith, append-nil}
use Rattle.std.proofs.lemmas.List.Elements.{All-head, All-tail}
use Rattle.dali_outside.specs.Outside.{Sight, now, TellsAll}
use Rattle.dali_outside.specs.Memory.{filled}
use Rattle.dali_outside.specs.Stops.{IsImage, MayLeave}

-- with each loose byte made this one it is an image
pub filled_image : (fill : ℕ) (bytes : List ℕ) (loose : List Bool) → fill < 256 → length loose ≡ length bytes → IsImage bytes loose (filled fill bytes loose)
filled_image fill [] [] small same = tt
filled_image fill [] (l ∷ loose) small same = absurd (omega (arith, same))
filled_image fill (b ∷ bytes) [] small same = absurd (omega (arith, same))
filled_image fill (b ∷ bytes) (true ∷ loose) small same = (small, filled_image fill bytes loose small (omega (arith, same)))
filled_image fill (b ∷ bytes) (false ∷ loose) small same = (refl, filled_image fill bytes loose small (omega (arith, same)))

-- what reads give is an image
pub own_image : (bytes : List ℕ) (loose : List Bool) → All (λ b. b < 256) bytes → length loose ≡ length bytes → IsImage bytes loose bytes
own_image [] [] small same = tt
own_image [] (l ∷ loose) small same = absurd (omega (arith, same))
own_image (b ∷ bytes) [] small same = absurd (omega (arith, same))
own_image (b ∷ bytes) (true ∷ loose) small same = (All-head (λ b. b < 256) b bytes small, own_image bytes loose (All-tail (λ b. b < 256) b bytes small) (omega (arith, same)))
own_image (b ∷ bytes) (false ∷ loose) small same = (refl, own_image bytes loose (All-tail (λ b. b < 256) b bytes small) (omega (arith, same)))

-- what reads give is what a stop now may leave
pub own_left : (s : Sight) → TellsAll s → MayLeave (now s) s.bytes s.printed
own_left s all = record {
  disk = own_image s.bytes s.loose all.small (omega (arith, all.bytes, all.loose));
  n = 0;
  printed = sym (append-nil s.printed);
}

-- where nothing is loose, there is no other image
pub only_image : (bytes : List ℕ) (n : ℕ) (image : List ℕ) → n ≡ length bytes → IsImage bytes (replicate n false) image → image ≡ bytes
only_image [] zero [] same left = refl
only_image [] zero (c ∷ image) same left = absurd left
only_image [] (suc n) image same left = absurd (omega (arith, same))
only_image (b ∷ bytes) zero image same left = absurd (omega (arith, same))
only_image (b ∷ bytes) (suc n) [] same left = absurd left
only_image (b ∷ bytes) (suc n) (c ∷ image) same left = (λ i. left.0 i ∷ only_image bytes n image (omega (arith, same)) left.1 i)

-- an image is as long as the disk
pub image_length : (bytes : List ℕ) (loose : List Bool) (image : List ℕ) → IsImage bytes loose image → length image ≡ length bytes
image_length [] [] [] left = refl
image_length [] [] (c ∷ image) left = absurd left
image_length [] (l ∷ loose) image left = absurd left
image_length (b ∷ bytes) [] image left = absurd left
image_length (b ∷ bytes) (true ∷ loose) [] left = absurd left
image_length (b ∷ bytes) (false ∷ loose) [] left = absurd left
image_length (b ∷ bytes) (true ∷ loose) (c ∷ image) left = omega (arith, image_length bytes loose image left.1)
image_length (b ∷ bytes) (false ∷ loose) (c ∷ image) left = omega (arith, image_length bytes loose image left.1)

-- the front of an image is an image of the front, and so is what is behind it
pub image_front : (n : ℕ) (bytes : List ℕ) (loose : List Bool) (image : List ℕ) → IsImage bytes loose image → IsImage (take n bytes) (take n loose) (take n image)
image_front zero bytes loose image left = tt
image_front (suc n) [] [] [] left = tt
image_front (suc n) [] [] (c ∷ image) left = absurd left
image_front (suc n) [] (l ∷ loose) image left = absurd left
image_front (suc n) (b ∷ bytes) [] image left = absurd left
image_front (suc n) (b ∷ bytes) (true ∷ loose) [] left = absurd left
image_front (suc n) (b ∷ bytes) (false ∷ loose) [] left = absurd left
image_front (suc n) (b ∷ bytes) (true ∷ loose) (c ∷ image) left = (left.0, image_front n bytes loose image left.1)
image_front (suc n) (b ∷ bytes) (false ∷ loose) (c ∷ image) left = (left.0, image_front n bytes loose image left.1)

pub image_back : (n : ℕ) (bytes : List ℕ) (loose : List Bool) (image : List ℕ) → IsImage bytes loose image → IsImage (drop n bytes) (drop n loose) (drop n image)
image_back zero bytes loose image left = left
image_back (suc n) [] [] [] left = tt
image_back (suc n) [] [] (c ∷ image) left = absurd left
image_back (suc n) [] (l ∷ loose) image left = absurd left
image_back (suc n) (b ∷ bytes) [] image left = absurd left
image_back (suc n) (b ∷ bytes) (true ∷ loose) [] left = absurd left
image_back (suc n) (b ∷ bytes) (false ∷ loose) [] left = absurd left
image_back (suc n) (b ∷ bytes) (true ∷ loose) (c ∷ image) left = image_back n bytes loose image left.1
image_back (suc n) (b ∷ bytes) (false ∷ loose) (c ∷ image) left = image_back n bytes loose image left.1
