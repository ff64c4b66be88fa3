pub mod Half
pub mod Told
