pub mod Charging
pub mod Limits
pub mod Met
pub mod OtherLimits
pub mod ScopesAndLevels
