pub mod Count
pub mod Near
pub mod Occupancy
pub mod Mask
