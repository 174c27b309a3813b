mod Receipts
mod Parting
mod Parts
mod Walk
pub mod Questions
pub mod Files
pub mod Slots
pub mod Moves
pub mod Stations
pub mod Walks
pub mod Backing
pub mod Announcements
pub mod Agreement
pub mod Memory
pub mod Heads
pub mod Walking
pub mod Growing
pub mod Quiet
pub mod Issued
pub mod Gatherings
pub mod Progress
pub mod Law
