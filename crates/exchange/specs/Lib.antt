pub mod Stations
pub mod Machine
pub mod Layout
pub mod Runs
pub mod Law
