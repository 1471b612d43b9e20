pub mod Qualified
pub mod Types
pub mod language
pub mod machine
