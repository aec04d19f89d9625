-- Definitions that public contracts cite:
pub mod Classes
pub mod Rules
pub mod Findings
