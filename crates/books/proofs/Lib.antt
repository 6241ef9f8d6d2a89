pub mod Stepwise
pub mod Encoded
pub mod Refused
