pub mod FrontLemmas
pub mod CbcLemmas
pub mod StealingLemmas
pub mod ByteLemmas
pub mod Undone
pub mod LengthLemmas
