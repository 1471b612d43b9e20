pub mod Found
mod PutBack
mod Responses
