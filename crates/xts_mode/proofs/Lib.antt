pub mod ByteLists
pub mod GroupLemmas
pub mod LoopLemmas
pub mod TweakLemmas
pub mod UnitLemmas
