pub mod Keys
pub mod Rows
pub mod Shares
pub mod Signings
pub mod Statements
