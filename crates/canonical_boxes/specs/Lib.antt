-- Definitions that public contracts cite:
pub mod Canonical
pub mod Touches
pub mod Located
pub mod Held
pub mod Plane
pub mod Standing
pub mod Laws
-- Definitions that serve private contracts alone:
pub mod Chosen
pub mod Sweeps
pub mod Queries
pub mod Skies
