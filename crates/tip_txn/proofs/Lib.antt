pub mod PartLemmas
pub mod DecisionLemmas
pub mod TallyLemmas
