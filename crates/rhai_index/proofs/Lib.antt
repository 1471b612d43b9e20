pub mod Following
mod Reached
mod Uncalled
