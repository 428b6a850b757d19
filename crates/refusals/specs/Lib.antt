pub mod Inputs
pub mod Answers
