pub mod Reading
pub mod ValuesRead
pub mod WorkedReadings
