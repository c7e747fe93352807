pub mod Sessions
pub mod Agreement
pub mod Main
pub mod Laws
pub mod Areas
