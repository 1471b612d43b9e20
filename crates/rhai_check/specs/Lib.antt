pub mod Around
pub mod MemoryNeeds
pub mod Refusals
pub mod Types
