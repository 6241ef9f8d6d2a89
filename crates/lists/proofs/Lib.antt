pub mod Among
pub mod Steps
pub mod Exact
pub mod Refused
pub mod Written
