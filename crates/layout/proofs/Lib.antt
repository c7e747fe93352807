pub mod Parts
pub mod Lengths
pub mod Standing
pub mod Reading
