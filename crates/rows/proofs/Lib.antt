pub mod Steps
pub mod Complete
pub mod Plain
pub mod Sound
pub mod Laws
