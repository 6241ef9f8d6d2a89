pub mod Stages
pub mod PreAssumptions
pub mod Negatives
pub mod Deciding
pub mod Agreeing
