pub mod Codec
pub mod Scan
pub mod Legs
pub mod Day
pub mod File
