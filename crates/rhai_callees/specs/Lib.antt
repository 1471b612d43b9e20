pub mod Behind
pub mod Kept
pub mod Linked
pub mod Pointers
