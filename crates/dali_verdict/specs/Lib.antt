pub mod Verdict
pub mod VerdictLine
pub use Rattle.dali_cert_text.specs.Form
pub use Rattle.dali_check.specs.Allowed
pub use Rattle.dali_check.specs.Parts
pub use Rattle.dali_problem.specs.Feasible
