pub mod EvictionLemmas
pub mod SecretLemmas
pub mod ToldLemmas
pub mod FewerLemmas
pub mod AlikeLemmas
pub mod AdditionLemmas
