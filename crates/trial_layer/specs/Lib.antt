pub mod Faults
pub mod Tokens
pub mod States
pub mod Trials
pub mod Layers
pub mod Runs
pub mod Laws
