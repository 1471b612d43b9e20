pub mod Callees
pub mod Filling
pub mod AtOnce
