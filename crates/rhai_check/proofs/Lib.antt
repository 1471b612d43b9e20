mod Calls
pub mod Chains
pub mod Counted
pub mod MapKeys
pub mod Offsets
pub mod Outcome
pub mod Refused
pub mod Scopes
pub mod Shared
pub mod Switches
pub mod Walk
