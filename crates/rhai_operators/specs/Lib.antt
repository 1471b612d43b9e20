pub mod Answers
pub mod Compare
pub mod Direct
pub mod Integers
pub mod Operators
pub mod Texts
