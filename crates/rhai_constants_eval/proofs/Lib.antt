mod Staying
mod Dispatching
