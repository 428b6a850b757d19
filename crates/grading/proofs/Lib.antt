pub mod Laws
pub mod Answering
pub mod Promises
pub mod Examples
