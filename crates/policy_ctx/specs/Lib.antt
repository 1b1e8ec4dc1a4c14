pub mod KeyIds
pub mod PolicyFaults
pub mod Policy
pub mod Settings
pub mod Context
