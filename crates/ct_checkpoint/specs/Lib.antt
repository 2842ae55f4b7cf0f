pub mod Checkpoint
pub mod Message
