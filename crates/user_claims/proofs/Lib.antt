pub mod SubMaps
pub mod ClaimOrder
pub mod ClaimLemmas
pub mod KeptLemmas
pub mod FirstLemmas
pub mod PresentLemmas
