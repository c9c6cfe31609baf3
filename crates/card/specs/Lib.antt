pub mod Cards
pub mod Declines
pub mod Layers
pub mod Records
