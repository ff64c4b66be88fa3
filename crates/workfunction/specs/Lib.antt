pub mod Lists
pub mod Least
pub mod Position
pub mod Movement
pub mod Choice
pub mod Serving
pub mod Plan
pub mod NetCost
