pub mod Steps
pub mod Lasting
pub mod Meant
pub mod Refusing
