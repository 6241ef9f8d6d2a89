pub mod Broken
pub mod Enough
pub mod Passed
