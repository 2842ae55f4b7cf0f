pub mod Fields
pub mod Values
pub mod Sends
pub mod Laws
pub mod Lines
pub mod Faults
