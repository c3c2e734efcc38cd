use Rattle.std.proofs.Common.{◌≡◌, ◌∙◌, ℕ, List, subst, ap}
use Rattle.dali_cert_text.specs.declared.block.Block.{Block}
use Rattle.dali_cert_text.specs.Form.{Spells}
use Rattle.dali_check.specs.Allowed.{Allowed, IsReason}
use Rattle.dali_verdict.specs.declared.verdict.Figures.{Figures}
use Rattle.dali_verdict.specs.declared.verdict.Why.TheVariants as why
use Rattle.dali_verdict.specs.declared.verdict.Verdict.{Verdict}
use Rattle.dali_verdict.specs.declared.verdict.Verdict.TheVariants.{Valid, Invalid}
use Rattle.dali_verdict.specs.Verdict.{SaysOf, IsVerdict, figures_of}

-- what is said of the one block that the bytes are is the verdict on them
pub verdict_of : (bytes : List ℕ) (block : Block) → Spells bytes block → ((b : Block) → Spells bytes b → block ≡ b) → (verdict : Verdict) → SaysOf block verdict → IsVerdict bytes verdict
verdict_of bytes block spelled only (Valid figures) says = record { block = block; spelled = spelled; only = only; says = says }
verdict_of bytes block spelled only (Invalid (why.Form line)) says = absurd says
verdict_of bytes block spelled only (Invalid (why.NotAllowed reason)) says = record { block = block; spelled = spelled; only = only; says = says }

-- of a block whose choice is allowed nothing else is said than its figures
pub says_valid : (block b : Block) → block ≡ b → Allowed b.problem b.budget b.choice → (verdict : Verdict) → SaysOf block verdict → verdict ≡ Valid (figures_of b)
says_valid block b same allowed (Valid figures) says = ap (λ (f : Figures). Valid f) (says.1 ∙ ap figures_of same)
says_valid block b same allowed (Invalid (why.Form line)) says = absurd says
says_valid block b same allowed (Invalid (why.NotAllowed reason)) says =
    absurd (allowed.none reason (subst (λ (x : Block). IsReason x.problem x.budget x.choice reason) same says).holds)
