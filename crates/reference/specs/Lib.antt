pub mod Reports
pub mod Configurations
pub mod Answers
pub mod Compiling
pub mod States
pub mod Calls
pub mod Laws
