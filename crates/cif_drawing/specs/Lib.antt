-- Definitions that public contracts cite:
pub mod Placements
pub mod Parts
pub mod Flattening
-- Definitions that serve private contracts alone:
pub mod Measures
pub mod Shapes
pub mod Inks
pub mod Numbers
pub mod Building
