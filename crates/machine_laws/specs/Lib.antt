pub mod Standing
pub mod Settling
pub mod Once
pub mod Reducing
pub mod Running
pub mod Starting
