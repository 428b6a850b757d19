pub mod JobFile
pub mod Kinds
pub mod Parse
pub mod Answers
pub mod Inner
