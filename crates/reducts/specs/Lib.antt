pub mod Reducts
pub mod Selected
pub mod Within
