pub mod ErrorContents
pub mod Errors
pub mod Native
