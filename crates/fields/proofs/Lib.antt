pub mod Stores
pub mod Laws
