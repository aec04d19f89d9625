-- Definitions that public contracts cite:
pub mod Polygons
pub mod Wires
-- Definitions that serve private contracts alone:
pub mod Changes
pub mod Spans
