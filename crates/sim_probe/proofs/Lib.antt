pub mod Behind
pub mod Keys
pub mod Tallies
pub mod Lasts
pub mod Ends
pub mod Dumps
pub mod DueRegular
