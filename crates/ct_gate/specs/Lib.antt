pub mod Seats
pub mod Word
pub mod Steps
pub mod Ring
pub mod Ends
pub mod Sending
pub mod Opening
pub mod Closing
