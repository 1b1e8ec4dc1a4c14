pub mod BegunLemmas
pub mod CallLemmas
pub mod StarLemmas
pub mod StepsLemmas
pub mod ToldLemmas
pub mod WorkLemmas
