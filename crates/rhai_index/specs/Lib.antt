pub mod Calls
pub mod Indexers
pub mod Indexes
pub mod Lends
pub mod Types
