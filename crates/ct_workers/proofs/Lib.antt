pub mod ClosingLemmas
pub mod TurnLemmas
pub mod OperatorLemmas
pub mod FrontLemmas
pub mod PartyLemmas
pub mod HouseLemmas
mod ScriptPartyLemmas
mod OrderLemmas
mod ShiftLemmas
mod StartLemmas
mod OutputLemmas
