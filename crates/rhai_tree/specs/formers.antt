-- How the containers store what they contain, so that a type may contain itself: a file for each.
pub mod boxed
pub mod items
pub mod shared
pub mod table
