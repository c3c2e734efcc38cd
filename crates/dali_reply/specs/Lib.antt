pub mod Reply
pub use Rattle.dali_waiting.specs.RowText
pub use Rattle.dali_line.specs.Grammar
pub use Rattle.dali_cert_print.specs.Block
