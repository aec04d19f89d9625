pub mod Cuts
pub mod Behind
pub mod PadNames
pub mod Spotting
pub mod Deciding
pub mod Placing
