pub mod Points
pub mod Standing
pub mod Steps
pub mod Lawful
pub mod Growing
