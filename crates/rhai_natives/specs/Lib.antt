pub mod Arguments
pub mod Numbers
pub mod Responses
pub mod Listed
pub mod Found
pub mod Table
pub mod NoContents
pub mod Law
