pub mod Concatenated
pub mod Sized
mod InParts
