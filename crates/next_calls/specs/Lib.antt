pub mod Callers
pub mod EntriesSoFar
pub mod NextCalls
