pub mod AreaBounds
pub mod LeafTotals
