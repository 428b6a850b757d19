pub mod Answers
pub mod HostCall
