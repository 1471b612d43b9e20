pub mod ContentLemmas
pub mod Reached
mod Tables
