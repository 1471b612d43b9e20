pub mod Places
pub mod Entries
mod Found
pub mod Lent
pub mod Natives
pub mod Writes
pub mod Updates
pub mod Going
