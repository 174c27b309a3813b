mod Majority
pub mod Schedule
mod Compression
pub mod Hash
pub mod Padding
mod Text
pub mod Digests
mod Examples
