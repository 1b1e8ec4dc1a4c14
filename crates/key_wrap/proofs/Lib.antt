pub mod ByteLemmas
pub mod CounterLemmas
