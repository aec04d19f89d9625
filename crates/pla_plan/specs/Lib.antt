-- Definitions that public contracts cite:
pub mod Planes
pub mod Fits
pub mod ArrayOf
pub mod PlaneModules
pub mod ArrayNetworks
pub mod RowChips
pub mod Filled
-- Definitions that serve private contracts alone:
pub mod Made
pub mod Numbered
