pub mod Contents
pub mod Elements
pub mod Readings
pub mod States
pub mod Codecs
pub mod Certificates
