-- Definitions that public contracts cite:
pub mod NetworkText
pub mod Shape
pub mod NetRefusals
-- Definitions that serve private contracts alone:
pub mod Gathered
pub mod Reading
pub mod Stages
pub mod Steps
