use Rattle.std.proofs.Common.{◌≡◌, ℕ, sym, ap, subst}
use Rattle.std.specs.Prelude.{Err}
use Rattle.std.proofs.lemmas.Result.{IfOk-weaker}
use Rattle.dali_cert_text.specs.declared.block.BlockNo.{BlockNo}
use Rattle.dali_cert_text.specs.declared.block.BlockNo.TheVariants.{Form}
use Rattle.dali_verdict.specs.declared.verdict.Why.TheVariants as why
use Rattle.dali_verdict.specs.declared.verdict.Verdict.{Verdict}
use Rattle.dali_verdict.specs.declared.verdict.Verdict.TheVariants.{Valid, Invalid}
use Rattle.dali_verdict.specs.Verdict.{SaysOf, IsVerdict, figures_of}
use Rattle.dali_verdict.proofs.Saying.{verdict_of, says_valid}
use Rattle.dali_verdict.proofs.judging.judge.Goals as goal

abbrev IsFormOf : BlockNo → Verdict → Type 0
IsFormOf e verdict = (line : ℕ) × (e ≡ Form line) × (verdict ≡ Invalid (why.Form line))

pub returns-in-Ok-clause-verdict : goal.returns-in-Ok-clause-verdict
returns-in-Ok-clause-verdict c =
    IfOk-weaker c.judge_block.result (SaysOf c.in-Ok.block) (IsVerdict c.args.bytes.now)
    (verdict_of c.args.bytes.now c.in-Ok.block c.in-Ok.ensures.found (λ b spells. (c.in-Ok.ensures.only b spells).0)) c.judge_block.ensures

pub returns-in-Ok-clause-valid : goal.returns-in-Ok-clause-valid
returns-in-Ok-clause-valid c b spells allowed =
    IfOk-weaker c.judge_block.result (SaysOf c.in-Ok.block) (λ (v : Verdict). v ≡ Valid (figures_of b))
    (says_valid c.in-Ok.block b (c.in-Ok.ensures.only b spells).0 allowed) c.judge_block.ensures

pub returns-in-Err-clause-verdict : goal.returns-in-Err-clause-verdict
returns-in-Err-clause-verdict c =
    IfOk-weaker c.judge_no_block.result (IsFormOf c.in-Err.no) (IsVerdict c.args.bytes.now)
    (λ verdict told. subst (IsVerdict c.args.bytes.now) (sym told.2) (record {
      none = λ b spells. (c.in-Err.ensures.only b spells).1 told.0 (ap (λ (e : BlockNo). Err e) told.1);
      line_of_form = c.in-Err.ensures.form told.0 (ap (λ (e : BlockNo). Err e) told.1);
    })) c.judge_no_block.ensures

pub returns-in-Err-clause-valid : goal.returns-in-Err-clause-valid
returns-in-Err-clause-valid c b spells allowed =
    IfOk-weaker c.judge_no_block.result (IsFormOf c.in-Err.no) (λ (v : Verdict). v ≡ Valid (figures_of b))
    (λ verdict told. absurd ((c.in-Err.ensures.only b spells).1 told.0 (ap (λ (e : BlockNo). Err e) told.1))) c.judge_no_block.ensures
