pub mod LoopLemmas
pub mod WordLemmas
pub mod BackLemmas
pub mod CallLemmas
pub mod ReplyLemmas
pub mod GuessLemmas
