pub mod Counting
pub mod Tables
pub mod Odd
pub mod OddLaw
pub mod Bench
pub mod BenchLaw
