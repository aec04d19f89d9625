-- Definitions that public contracts cite:
pub mod Simulation
pub mod TraceTexts
pub mod TraceCuts
pub mod TraceLines
pub mod TraceLaws
pub mod Serving
pub mod ServedParts
pub mod ServedLaws
-- Definitions that serve private contracts alone:
pub mod TraceReading
pub mod ServingSteps
pub mod Waiting
pub mod Rooms
pub mod Incidence
pub mod Gating
pub mod Naming
pub mod Nets
pub mod Grouping
pub mod ToldLevels
pub mod DueNets
pub mod Simulating
