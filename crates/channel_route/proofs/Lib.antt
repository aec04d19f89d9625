mod Lines
mod Passing
mod Rooms
mod Drawings
mod Ordered
