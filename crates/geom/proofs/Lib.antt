pub mod Turns
pub mod TallRuns
pub mod Canonical
pub mod Lists
pub mod Overs
pub mod RowTrees
pub mod Reaches
pub mod Sweeps
pub mod Fence
pub mod Columns
pub mod Sorts
pub mod Chosen
pub mod Talls
pub mod Layers
pub mod Joins
mod CifSmall
