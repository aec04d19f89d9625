pub mod Name
pub mod Role
pub mod NameFields
pub mod TextPlace
pub mod NumberInText
