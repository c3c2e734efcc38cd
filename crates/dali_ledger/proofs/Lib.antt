pub mod SumLemmas
pub mod KeptLemmas
pub mod NetLemmas
pub mod LastLemmas
pub mod PlaceLemmas
