pub mod Items
pub mod OneText
pub mod Sent
pub mod Values
pub mod KeptLines
pub mod LinesOf
