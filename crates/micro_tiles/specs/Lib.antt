-- Definitions that public contracts cite:
pub mod Sides
pub mod Designs
pub mod Basics
pub mod Boxes
pub mod Table
pub mod Strips
pub mod Shapes
pub mod Nets
pub mod Conducting
pub mod Regions
pub mod Transposes
pub mod Examples
-- Definitions that serve private contracts alone:
pub mod Slots
