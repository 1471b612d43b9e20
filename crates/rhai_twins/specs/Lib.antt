pub mod Checks
pub mod Replies
pub mod Ends
pub mod Responses
