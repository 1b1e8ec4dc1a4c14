pub mod AskedLemmas
pub mod CallerLemmas
pub mod EachLemmas
pub mod PathLemmas
pub mod ScriptLemmas
