pub mod Decided
pub mod Words
pub mod Answered
pub mod Loops
pub mod NodeTrees
pub mod Layers
pub mod Cuts
pub mod Agreeing
pub mod Middle
pub mod Statements
pub mod WordCuts
pub mod Alike
pub mod Copying
pub mod Bounds
mod SquareLines
