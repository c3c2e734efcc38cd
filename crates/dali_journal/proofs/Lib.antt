pub mod RestLemmas
pub mod TornLemmas
pub mod RecordLemmas
pub mod AppendLemmas
pub mod HeaderLemmas
pub mod GroupLemmas
pub mod OneList
pub mod OutsideLemmas
