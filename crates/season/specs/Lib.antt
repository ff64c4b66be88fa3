pub mod Calendar
pub mod Windows
pub mod Season
