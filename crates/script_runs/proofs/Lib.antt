pub mod CallerLemmas
pub mod JoinLemmas
pub mod PassLemmas
pub mod RangeLemmas
pub mod RotationLemmas
pub mod RoundLemmas
pub mod ThreadLemmas
pub mod TurnLemmas
