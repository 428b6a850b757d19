pub mod Order
pub mod Algebra
