pub mod Reporting
pub mod Placed
pub mod Lengths
