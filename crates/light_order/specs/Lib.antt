-- Definitions that public contracts cite:
pub mod Order
pub mod Crossings
