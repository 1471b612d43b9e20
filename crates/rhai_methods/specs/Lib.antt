pub mod Calls
pub mod Copies
pub mod Methods
pub mod Parts
pub mod Words
