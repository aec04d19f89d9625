-- Definitions that public contracts cite:
pub mod Rows
pub mod Columns
pub mod Cells
pub mod Matrices
pub mod PartRows
pub mod OpenLoads
pub mod Drawn
pub mod MatrixNets
pub mod Modules
pub mod Examples
pub mod SortedNets
