-- Definitions that public contracts cite:
pub mod Trees
pub mod Normal
pub mod Shapes
pub mod Tables
pub mod Sizes
pub mod Laws
pub mod Examples
-- Definitions that serve private contracts alone:
pub mod Signs
pub mod Outlines
pub mod Labels
pub mod Tasks
pub mod Unions
pub mod Assembly
