pub mod Access
pub mod Chains
pub mod Given
pub mod Ready
pub mod Spots
pub mod Walking
