pub mod FilledLemmas
pub mod LabelLemmas
