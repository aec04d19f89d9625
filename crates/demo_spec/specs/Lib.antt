-- Definitions that public contracts cite:
pub mod Generator
pub mod Examples
-- Definitions that only the contracts of private functions cite:
pub mod Piles
pub mod Tables
