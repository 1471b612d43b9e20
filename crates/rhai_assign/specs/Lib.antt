pub mod FocusTargets
pub mod Follows
pub mod Keeps
pub mod Lending
pub mod Targets
pub mod Updates
