pub mod Laws
pub mod Lends
pub mod PathLaws
