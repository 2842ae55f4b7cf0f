pub mod History
pub mod NewestHead
pub mod Register
pub mod StepReceipts
pub mod StepBodies
