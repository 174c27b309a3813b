pub mod Forging
mod Asked
mod Notes
mod Bare
mod Cases
mod Over
mod Taken
mod Example
mod Dishonest
