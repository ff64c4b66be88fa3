pub mod Order
pub mod Table
pub mod Surveyed
