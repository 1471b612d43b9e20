pub mod PlainSteps
pub mod Steps
