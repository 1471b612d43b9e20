pub mod Points
pub mod Runs
pub mod Limits
pub mod Ends
pub mod MeantLaws
pub mod Places
pub mod MethodLaws
pub mod WritesAtOnce
mod ChainLinks
mod Sizes
mod CallFalls
mod AssignmentFalls
mod ChainFalls
mod FormFalls
mod Falls
pub mod LanguageLaws
