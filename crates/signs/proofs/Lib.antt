pub mod Fields
pub mod Again
