use Rattle.std.proofs.Common.{◌≡◌, ◌⊎◌, inl, inr, Bool, true, false, cond, Option, Some, None, refl, ap}
use Rattle.std.specs.Prelude.{option_and_then}

-- the value of a step that answered
pub bind_some : {A B : Type 0} (f : A → Option B) (o : Option A) (y : B) → option_and_then f o ≡ Some y → (x : A) × (o ≡ Some x) × (f x ≡ Some y)
bind_some f (Some x) y told = (x, refl, told)
bind_some f None y told = absurd cc

-- the value of an if that answered only where its test held
pub if_some : {A : Type 0} (b : Bool) (x : Option A) (y : A) → cond b x None ≡ Some y → (b ≡ true) × (x ≡ Some y)
if_some true x y told = (refl, told)
if_some false x y told = absurd cc

-- a row of ifs
pub either : {A : Type 0} (b : Bool) (x z y : Option A) → cond b x z ≡ y → ((b ≡ true) × (x ≡ y)) ⊎ ((b ≡ false) × (z ≡ y))
either true x z y told = inl (refl, told)
either false x z y told = inr (refl, told)

abbrev some : {A : Type 0} → A → Option A
some x = Some x

pub some_is : {A : Type 0} (x y : A) → some x ≡ some y → x ≡ y
some_is x y told = cc

pub if_true : {A : Type 0} (b : Bool) (x z : A) → b ≡ true → cond b x z ≡ x
if_true b x z told = ap (λ (t : Bool). cond t x z) told
