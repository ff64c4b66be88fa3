pub mod Row
pub mod Sheet
