mod Asking
mod Halts
mod Once
mod Refused
mod Starts
mod Targets
