-- Definitions that public contracts cite:
pub mod Figures
pub mod Openings
-- Definitions that serve private contracts alone:
pub mod Rectangles
pub mod Scaling
pub mod Boxes
pub mod Polygons
pub mod Steps
pub mod Wires
