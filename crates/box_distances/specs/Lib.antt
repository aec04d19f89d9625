-- Definitions that public contracts cite:
pub mod Near
pub mod Narrow
