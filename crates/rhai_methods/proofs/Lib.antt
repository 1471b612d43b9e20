mod CopyLemmas
mod Cores
mod Going
mod Levels
mod Linked
mod Meanings
mod Pointed
