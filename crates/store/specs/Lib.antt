pub mod Faults
pub mod Meaning
pub mod Layout
pub mod Areas
