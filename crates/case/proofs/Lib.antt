pub mod Judgements
pub mod Opened
pub mod Rises
pub mod Proposals
pub mod Settlements
pub mod Assumptions
