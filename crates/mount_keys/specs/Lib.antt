pub mod KeyReplies
pub mod ClaimChanges
