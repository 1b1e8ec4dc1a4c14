pub mod Asked
pub mod LawLemmas
pub mod MeaningLemmas
pub mod NoteLemmas
pub mod RunLemmas
pub mod SerialLemmas
pub mod ShownRuns
pub mod StopLemmas
