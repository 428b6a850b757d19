pub mod Laws
pub mod Resume
pub mod Least
pub mod Blocks
pub mod Trial
