pub mod Literals
pub mod Conditions
pub mod InPlace
pub mod Integers
pub mod Names
pub mod Forms
pub mod Standing
