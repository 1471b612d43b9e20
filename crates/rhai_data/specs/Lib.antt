pub mod Arrays
pub mod Maps
pub mod Texts
