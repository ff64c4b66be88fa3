pub mod Promise
pub mod Cases
