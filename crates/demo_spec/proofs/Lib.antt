pub mod Growing
pub mod Makings
pub mod Whole
pub mod PrintedDemos
