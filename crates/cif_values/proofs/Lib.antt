pub mod Bytes
pub mod Texts
pub mod Counting
pub mod Behind
pub mod Standing
pub mod NextParts
pub mod Ordering
pub mod Written
