pub mod Steady
pub mod Memory
pub mod Kept
pub mod Laws
pub mod Selectors
pub mod Assigned
