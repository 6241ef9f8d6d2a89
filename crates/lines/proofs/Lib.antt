pub mod Exact
pub mod Named
pub mod Spaced
pub mod Valued
pub mod Written
