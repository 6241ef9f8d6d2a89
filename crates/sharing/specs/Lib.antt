pub mod Limits
pub mod Sheets
pub mod Bounds
pub mod Asked
pub mod Encoding
pub mod Laws
