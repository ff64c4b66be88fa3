pub mod Places
pub mod Vouching
pub mod Metres
pub mod Sound
pub mod FreshBook
pub mod Ignored
pub mod Counts
