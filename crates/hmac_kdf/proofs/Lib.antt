pub mod BytesLemmas
pub mod KeyBlock
pub mod Expansion
