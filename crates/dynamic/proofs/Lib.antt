pub mod Crossing
pub mod Laws
pub mod Row
