pub mod Runs
pub mod Law
pub mod Traces
pub mod Steps
