pub mod EscapeLemmas
pub mod PathLemmas
pub mod PartSteps
pub mod PlainWords
pub mod WordReadings
pub mod WordSpells
