pub mod Declines
pub mod Seals
pub mod Keys
pub mod Hmac
pub mod Pairs
pub mod Listed
