pub mod Modules
pub mod Contents
pub mod Sealed
pub mod Laws
