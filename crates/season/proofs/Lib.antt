pub mod Cases
pub mod Promise
