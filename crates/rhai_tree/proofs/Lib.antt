pub mod Catch
pub mod Each
mod Joins
pub mod Links
pub mod LookupLemmas
pub mod Statements
pub mod Walk
