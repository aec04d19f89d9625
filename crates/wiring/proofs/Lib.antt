mod Spans
mod Ends
mod Tiles
mod WireTiles
mod WirePaths
mod WireNames
mod WiringModules
