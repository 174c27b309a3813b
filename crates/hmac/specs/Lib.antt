pub mod Key
pub mod Hmac
pub mod Examples
