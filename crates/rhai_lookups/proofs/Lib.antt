mod Choices
pub mod Fitting
pub mod Returned
mod Stacks
