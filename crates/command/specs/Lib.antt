pub mod Words
pub mod Reading
pub mod Keys
pub mod Commands
