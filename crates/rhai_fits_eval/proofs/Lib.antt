mod Steps
pub mod Ends
pub mod Starts
mod Places
mod Targets
mod Indexes
mod Holding
mod Together
mod Missing
