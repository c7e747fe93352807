pub mod Books
pub mod Booking
pub mod Entries
pub mod Ordering
pub mod Running
pub mod Undoing
