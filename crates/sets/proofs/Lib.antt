pub mod Rising
pub mod Bitset
pub mod Sets
pub mod Differing
pub mod Iterating
pub mod Ranges
