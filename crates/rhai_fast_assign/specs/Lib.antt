pub mod Assignments
pub mod InPlace
pub mod Items
