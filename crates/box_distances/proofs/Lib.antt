pub mod Lists
pub mod Rows
pub mod Besides
pub mod Nears
pub mod Reached
pub mod Blocks
pub mod Choosing
