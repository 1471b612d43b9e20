mod Descending
pub mod Pushing
mod Searches
