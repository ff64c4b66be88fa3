pub mod Outputs
pub mod Promise
pub mod Cases
