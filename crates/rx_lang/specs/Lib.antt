-- Definitions that public contracts cite:
pub mod Vector
pub mod Expression
pub mod Meaning
pub mod Specification
pub mod Copies
pub mod Positions
pub mod Squares
pub mod Tables
pub mod VectorWords
pub mod Laws
pub mod Examples
-- Definitions that serve private contracts alone:
pub mod Wrapped
pub mod Around
