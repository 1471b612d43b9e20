pub mod Staying
pub mod Laws
