pub mod Blocks
pub mod Failed
