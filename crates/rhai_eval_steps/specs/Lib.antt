pub mod Agreement
pub mod Bodies
pub mod Calls
pub mod Chains
pub mod Memory
pub mod States
