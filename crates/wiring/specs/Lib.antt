-- Definitions that public contracts cite:
pub mod Wirings
pub mod WiringNets
