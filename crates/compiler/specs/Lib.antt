pub mod Fronts
pub mod Area
pub mod Emit
pub mod Writing
pub mod Compile
