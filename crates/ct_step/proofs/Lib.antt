mod Loops
mod Written
mod Batches
mod Handed
mod Fitting
mod Made
mod Listed
pub mod LinesAgree
pub mod RollingOut
pub mod Lengths
pub mod Steps
pub mod Agree
pub mod Roots
pub mod EdgesTell
pub mod Widths
pub mod HandedAgree
pub mod Lists
pub mod Once
pub mod Believing
pub mod Missing
pub mod StateLines
pub mod Names
pub mod Bundles
pub mod StepKept
pub mod Attempts
pub mod Splitting
pub mod StepObjects
pub mod EdgeParts
pub mod Claims
pub mod FirstIndexes
pub mod Splits
pub mod AddedOnce
pub mod RolledOut
pub mod Standing
pub mod NamedObjects
pub mod Pushed
pub mod Contents
pub mod CallReceipts
pub mod Answered
