pub mod Counts
pub mod Closing
pub mod Draining
pub mod Opening
pub mod Steps
