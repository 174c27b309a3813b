pub mod Numbers
pub mod Places
pub mod Questions
pub mod Texts
