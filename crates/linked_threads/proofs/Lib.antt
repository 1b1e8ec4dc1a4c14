pub mod EndLemmas
pub mod JoinLemmas
pub mod OneLemmas
