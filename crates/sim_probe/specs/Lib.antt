-- Definitions that public contracts cite:
pub mod Manner
pub mod Due
pub mod Levels
pub mod TogglesText
pub mod WavesText
pub mod Regular
pub mod Examples
-- Definitions that serve private contracts alone:
pub mod Tallies
pub mod Changing
