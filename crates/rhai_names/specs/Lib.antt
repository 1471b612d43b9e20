pub mod Declaring
pub mod Lends
pub mod Passed
pub mod Roots
pub mod Saves
pub mod Variables
