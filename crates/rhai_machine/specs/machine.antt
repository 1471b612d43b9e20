-- The machine by itself, whatever the language: steps and runs, the limit of operations, memory that runs out, and the laws.
pub mod Machine
pub mod Point
pub mod Unwinding
pub mod Memory
pub mod Settling
pub mod Laws
