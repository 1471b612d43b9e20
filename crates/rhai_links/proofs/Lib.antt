mod Alike
mod ArgumentLemmas
pub mod Beginning
pub mod Descending
pub mod Entering
mod GivenAtOnce
pub mod Inside
pub mod LinkLemmas
pub mod OnTemporaries
pub mod Walked
