pub mod Laws
pub mod Kept
pub mod Reading
pub mod Allowances
pub mod Imbalances
pub mod Promises
pub mod Numbers
