pub mod Ends
pub mod Promises
