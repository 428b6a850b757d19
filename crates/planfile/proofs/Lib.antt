pub mod Records
pub mod Parts
pub mod Fields
pub mod Reading
pub mod Writing
pub mod Promises
pub mod Examples
