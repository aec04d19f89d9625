-- Definitions that public contracts cite:
pub mod Kinds
-- Definitions that serve private contracts alone:
pub mod Names
