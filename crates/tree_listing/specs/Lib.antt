pub mod DrawnKeys
pub mod Sights
pub mod ListingText
pub mod PlacedEntries
pub mod Listing
pub mod Ways
pub mod WayLines
pub mod Walk
