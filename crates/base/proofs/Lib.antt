pub mod Numbers
pub mod Tests
pub mod Lists
pub mod Signed
pub mod Blocks
pub mod Decimal
