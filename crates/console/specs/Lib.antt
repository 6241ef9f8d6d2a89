pub mod Commands
pub mod Telling
pub mod Outcomes
pub mod Printouts
pub mod Passing
pub mod Sources
pub mod Replays
