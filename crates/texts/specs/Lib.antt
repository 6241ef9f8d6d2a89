pub mod Files
pub mod Texts
pub mod Buffered
pub mod Writing
