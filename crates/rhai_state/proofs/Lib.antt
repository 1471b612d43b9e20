mod Aliases
mod Deciding
mod Layers
mod Lists
pub mod Newest
mod Ranges
