pub mod Encodings
pub mod KeyIdLemmas
