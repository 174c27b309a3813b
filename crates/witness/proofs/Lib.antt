pub mod Consequences
mod Cases
