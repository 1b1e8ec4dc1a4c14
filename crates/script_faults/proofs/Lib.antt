pub mod FaultLemmas
pub mod KindLemmas
