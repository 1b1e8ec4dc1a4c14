pub mod WordTests
pub mod WordKinds
pub mod GrammarFaults
pub mod LineFaults
pub mod KindLaws
