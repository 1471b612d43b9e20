pub mod ArrayLemmas
pub mod TextSteps
