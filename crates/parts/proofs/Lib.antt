pub mod Front
pub mod Laws
pub mod Search
pub mod Measure
pub mod Slowest
pub mod Held
pub mod Lines
