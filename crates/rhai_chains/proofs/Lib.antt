mod AssignLemmas
mod MemberLemmas
mod SettingLemmas
mod SpotLemmas
pub mod PartCalls
