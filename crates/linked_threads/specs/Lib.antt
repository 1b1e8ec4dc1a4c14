pub mod LinkedThreads
pub mod Threaded
