pub mod Bundles
pub mod Fields
pub mod Events
pub mod Openings
pub mod Reports
pub mod Calls
pub mod Playing
