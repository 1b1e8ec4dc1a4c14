pub mod KeptLemmas
pub mod RecordLemmas
pub mod IndexLemmas
