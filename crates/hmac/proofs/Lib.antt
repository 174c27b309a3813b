mod Masks
mod Differences
pub mod Stamps
pub mod Examples
