pub mod Classes
pub mod Compartments
pub mod Order
