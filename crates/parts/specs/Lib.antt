pub mod Prefix
pub mod Rising
pub mod Kept
pub mod Lent
