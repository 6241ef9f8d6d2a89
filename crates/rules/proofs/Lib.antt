pub mod Lookup
pub mod Bodies
pub mod Fits
pub mod Exactly
pub mod Laying
pub mod Copied
