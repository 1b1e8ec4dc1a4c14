pub mod RingLemmas
pub mod ModeLemmas
