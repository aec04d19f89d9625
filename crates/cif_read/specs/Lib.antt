-- Definitions that public contracts cite:
pub mod Reading
pub mod OneReading
pub mod WrittenChips
-- Definitions that serve private contracts alone:
pub mod Marks
pub mod States
