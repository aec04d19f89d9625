-- Definitions that public contracts cite:
pub mod DemoWords
pub mod Words
pub mod Codes
pub mod LayoutCodes
pub mod StatusText
pub mod Behaviour
pub mod Endings
pub mod Chips
pub mod Files
pub mod Compiling
pub mod Extracting
pub mod Simulating
pub mod Reporting
pub mod Telling
pub mod Commands
pub mod Promises
pub mod Logged
-- Definitions that serve private contracts alone:
pub mod Pieces
pub mod Serving
pub mod Naming
pub mod Measuring
