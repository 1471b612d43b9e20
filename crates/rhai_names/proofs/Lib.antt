pub mod Offering
pub mod Rooted
mod Tables
pub mod Passing
