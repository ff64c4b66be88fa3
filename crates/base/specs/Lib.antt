pub mod Numbers
pub mod Tests
pub mod Metric
pub mod Lists
pub mod Decimal
pub mod Counts
