pub mod Steps
pub mod Views
pub mod Ways
pub mod Paste
pub mod Laying
pub mod Placing
