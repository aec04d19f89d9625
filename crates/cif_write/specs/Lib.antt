-- Definitions that public contracts cite:
pub mod ChipText
pub mod WrittenChips
-- Definitions that serve private contracts alone:
pub mod Gathered
