-- Definitions that public contracts cite:
pub mod Squares
pub mod Turns
pub mod Chips
pub mod Merged
pub mod Conduction
pub mod CifCommands
pub mod CifLabels
pub mod Rows
pub mod CifShapes
pub mod CifDrawings
pub mod CifCodes
pub mod CifRefusals
pub mod CifExamples
-- Definitions that serve private contracts alone:
pub mod Wholes
pub mod Columns
pub mod Spans
pub mod RowTrees
pub mod Reaches
pub mod Sweeps
