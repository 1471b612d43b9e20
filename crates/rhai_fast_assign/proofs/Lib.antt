pub mod Alone
pub mod Prepared
pub mod Integers
pub mod Stored
pub mod Parts
pub mod Index
pub mod Item
pub mod Path
