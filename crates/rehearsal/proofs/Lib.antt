pub mod Gathers
pub mod Outcomes
pub mod Steps
pub mod Bundled
pub mod Traces
pub mod Agreeing
pub mod Opened
pub mod Running
