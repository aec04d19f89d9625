-- Definitions that public contracts cite:
pub mod Circuit
pub mod Settling
pub mod Clock
pub mod ClockedLogic
pub mod Recognition
pub mod Validity
pub mod Examples
pub mod SettlingLaws
pub mod SameNetworks
pub mod Ternary
pub mod TernaryLogic
pub mod NameKeys
pub mod LeastLevels
pub mod SameRuns
-- Definitions that serve private contracts alone:
pub mod SeenPads
