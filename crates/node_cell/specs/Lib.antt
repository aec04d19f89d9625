-- Definitions that public contracts cite:
pub mod Blocks
pub mod BlockTiles
pub mod BlockModules
pub mod Made
