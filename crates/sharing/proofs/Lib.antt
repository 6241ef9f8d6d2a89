mod Passing
mod RuleOf
pub mod Misfits
mod Stepwise
mod Encoded
mod Refused
