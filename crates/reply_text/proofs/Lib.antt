pub mod LogLemmas
pub mod NameLemmas
pub mod FieldLemmas
pub mod ReplyLemmas
pub mod BeginningLemmas
pub mod CallLemmas
pub mod LineLemmas
