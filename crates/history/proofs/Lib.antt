pub mod History
pub mod Grown
pub mod AsQuoted
pub mod InTurn
