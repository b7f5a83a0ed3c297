pub mod ShortSheets
pub mod Tests
