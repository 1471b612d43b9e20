pub mod EachLemmas
pub mod SizeLemmas
pub mod CopyLemmas
pub mod ModeLemmas
pub mod CopyContents
