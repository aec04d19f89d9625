-- Definitions that public contracts cite:
pub mod Tokens
pub mod Lexemes
pub mod Grammar
pub mod Refusals
pub mod Uses
pub mod Accepted
pub mod SpecRefusal
pub mod Printed
pub mod Printable
pub mod PrintExamples
-- Definitions that serve private contracts alone:
pub mod Machine
pub mod Heads
pub mod WordUses
pub mod UsesRead
pub mod NameTables
pub mod NameReading
pub mod NameSteps
pub mod NodeBuilder
pub mod NodeTables
pub mod Pieces
