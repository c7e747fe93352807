pub mod Layout
pub mod Flat
