pub mod Sides
pub mod Firsts
pub mod Positions
