pub mod Faults
pub mod Tags
pub mod Der
pub mod Placed
pub mod Fields
pub mod Certificates
pub mod Envelopes
pub mod Laws
