-- Definitions that public contracts cite:
pub mod TreePlans
pub mod TreeNetworks
pub mod Signatures
pub mod TreeChips
pub mod KindNumbers
pub mod Labels
