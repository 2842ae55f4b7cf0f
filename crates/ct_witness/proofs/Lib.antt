pub mod Runs
pub mod Quorums
pub mod Viewing
