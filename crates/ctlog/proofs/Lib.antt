pub mod RunLemmas
pub mod CommandLemmas
pub mod OptionLemmas
pub mod FaultKinds
pub mod AnswerLemmas
