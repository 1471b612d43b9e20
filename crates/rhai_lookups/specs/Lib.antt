pub mod Codes
pub mod Fits
pub mod Keys
pub mod Levels
pub mod Lists
pub mod Runs
