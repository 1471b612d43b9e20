pub mod Arguments
pub mod Outcome
pub mod Settings
