pub mod Dispatching
pub mod Lent
pub mod NativeCalls
pub mod OnVariable
pub mod Taking
pub mod TargetLemmas
