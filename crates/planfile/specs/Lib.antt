pub mod PlanFile
pub mod Answers
