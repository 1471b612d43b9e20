pub mod InHand
pub mod Together
pub mod Laws
