pub mod Laws
pub mod Listings
pub mod Promises
pub mod Examples
