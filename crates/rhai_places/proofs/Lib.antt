pub mod BitsLemmas
pub mod CharLemmas
pub mod FieldLemmas
pub mod PartLemmas
pub mod PathLemmas
pub mod PlaceLemmas
