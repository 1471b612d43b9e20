pub mod Found
pub mod Left
pub mod Numbers
