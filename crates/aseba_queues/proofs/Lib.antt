pub mod InSteps
pub mod JoinedLaws
pub mod MergeLemmas
pub mod PortSteps
pub mod ViewLemmas
