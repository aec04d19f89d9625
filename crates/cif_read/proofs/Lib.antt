mod Marks
mod States
mod Drawn
mod Stepping
mod Runs
mod Spelled
mod OneState
mod OneReading
