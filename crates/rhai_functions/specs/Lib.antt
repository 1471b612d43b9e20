pub mod Called
pub mod Entering
pub mod Functions
pub mod Keys
pub mod Namespaces
pub mod Words
