pub mod Forms
pub mod Keywords
pub mod Leading
pub mod Pointers
