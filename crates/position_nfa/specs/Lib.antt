-- Definitions that public contracts cite:
pub mod Automaton
pub mod Terms
pub mod Agreement
pub mod Registers
pub mod Reached
pub mod Runs
-- Definitions that serve private contracts alone:
pub mod LeafRows
pub mod Summaries
pub mod Waiting
pub mod TreeParts
