pub mod Nth
pub mod Finds
pub mod Ways
pub mod Spans
pub mod Writes
pub mod Tells
pub mod Objects
pub mod Asked
