-- Definitions that public contracts cite:
pub mod Labelled
-- Definitions that serve private contracts alone:
pub mod Words
pub mod Spots
