pub mod Callers
pub mod Generated
pub mod Numbers
pub mod Operations
pub mod Words
