pub mod Text
pub mod Put
pub mod Report
pub mod Promise
