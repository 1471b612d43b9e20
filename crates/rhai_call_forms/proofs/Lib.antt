pub mod FormLemmas
pub mod LeadingLemmas
pub mod Levels
