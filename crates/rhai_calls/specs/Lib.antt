pub mod Called
pub mod Dispatch
pub mod ToldChanges
pub mod Natives
pub mod Operates
pub mod Targets
