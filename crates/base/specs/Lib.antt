pub mod Stacks
pub mod Words
pub mod Refusals
pub mod Loading
pub mod Buffers
