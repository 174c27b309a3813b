pub mod Forging
pub mod Cases
pub mod Unused
pub mod Filing
pub mod Dishonest
