pub mod Hash
pub mod Midway
pub mod Mac
