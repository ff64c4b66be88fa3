pub mod Reading
pub mod Promise
pub mod Outputs
