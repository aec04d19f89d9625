pub mod Surrounding
pub mod TileEdges
pub mod Rectangles
pub mod Measuring
pub mod Existence
