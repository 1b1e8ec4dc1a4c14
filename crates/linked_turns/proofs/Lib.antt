pub mod EndLemmas
pub mod HeadingLemmas
pub mod LineLemmas
pub mod MeaningLemmas
pub mod SameSteps
pub mod SerialLemmas
pub mod StepLemmas
pub mod TurnLemmas
