pub mod FileLemmas
pub mod KeyLemmas
pub mod MadeLemmas
pub mod RecordLemmas
pub mod RemovalLemmas
pub mod StandsLemmas
