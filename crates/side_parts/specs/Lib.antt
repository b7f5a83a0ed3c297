pub mod ShortSheets
