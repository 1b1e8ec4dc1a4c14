pub mod Prefixes
pub mod Placing
pub mod Ordering
pub mod Sorting
