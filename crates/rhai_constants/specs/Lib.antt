pub mod Constants
pub mod Laws
