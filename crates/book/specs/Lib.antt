pub mod Book
pub mod Weights
