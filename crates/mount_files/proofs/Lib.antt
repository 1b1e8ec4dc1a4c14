pub mod SealLemmas
pub mod OpenLemmas
pub mod RoomLemmas
pub mod WrittenLemmas
pub mod ReadLemmas
pub mod WriteLemmas
mod HandleCounts
mod ModeCounts
mod ContextUses
mod OpenedLemmas
mod CachedRules
mod ClosedLemmas
mod ClosingLemmas
mod NeedLemmas
mod PinnedLemmas
mod OpenStands
mod CloseStands
