pub mod Derives
pub mod Reducts
pub mod Judging
pub mod Chains
pub mod Listed
pub mod Firing
pub mod Following
