pub mod Reach
pub mod Bids
pub mod Answer
pub mod Walked
