use Rattle.std.specs.Prelude.{◌≡◌, Option, Some, None, Result, Ok, Err}
use Rattle.dali_cert_text.specs.declared.refused.Refused.{Refused}
use Rattle.dali_cert_text.specs.declared.refused.Refused.TheVariants as refused

-- what a private function answered is what a definition gives, unless memory was wanted
abbrev pub Gives : {A : Type 0} → Result A Refused → Option A → Type 0
Gives (Ok x) given = given ≡ Some x
Gives (Err refused.Form) given = given ≡ None
Gives (Err refused.Memory) given = Unit {0}
