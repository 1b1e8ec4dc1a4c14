pub mod CacheMaps
pub mod Evictions
pub mod Ciphers
pub mod CacheRules
pub mod KeyUsers
pub mod Users
pub mod Whole
