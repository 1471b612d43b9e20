pub mod Behind
pub mod Going
pub mod Lending
pub mod Lists
pub mod PublicRoots
