pub mod Call
pub mod Demands
pub mod Grades
pub mod Limit
pub mod Halvings
pub mod Trials
pub mod Editions
pub mod Holds
