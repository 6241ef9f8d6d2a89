pub mod Limits
pub mod Sets
pub mod Iterating
