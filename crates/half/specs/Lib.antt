pub mod Square
pub mod Told
