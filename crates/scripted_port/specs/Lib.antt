pub mod PortLaws
pub mod FurtherCalls
pub mod Scripted
