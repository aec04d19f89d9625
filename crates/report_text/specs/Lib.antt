-- Definitions that public contracts cite:
pub mod Sizes
pub mod Reports
