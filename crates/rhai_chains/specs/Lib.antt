pub mod Assigned
pub mod Members
pub mod Roots
