pub mod Standings
pub mod Cases
pub mod Calls
